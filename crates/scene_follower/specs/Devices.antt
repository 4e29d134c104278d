-- The device of a run's records.
use Rattle.std.specs.Prelude.{◌≡◌, [], None, Some}
use Rattle.command_line.specs.declared.args.Options.{Options}
use Rattle.scene_follower.specs.Reports.{store_for}
use Rattle.scene_follower.specs.declared.devices.RecordDevice.{RecordDevice, TheVariants.Buffered, TheVariants.Unused}

-- this device, with an empty buffer and the setting of the records if the options ask for any, else as it is
abbrev pub IsRecordDevice : {S : Type 0} → Options → S → RecordDevice S → Type 0
IsRecordDevice options device (Unused given) = (given ≡ device) × (store_for options ≡ None)
IsRecordDevice options device (Buffered records config) = (records.writer ≡ device) × (records.pending ≡ [])
    × (store_for options ≡ Some config)
