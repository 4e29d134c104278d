use Rattle.std.proofs.Common.{◌∙◌, refl, sym}
use Rattle.scene_reader.specs.Names.{after_streams, all_attempts, attempt_fields, attempts_from, event_rows}
use Rattle.scene_reader.specs.Names.{instance_fields, output_fields, spelled_output_fields}
use Rattle.scene_reader.proofs.usual.read_usual.Goals as goal

pub returns : goal.returns
unfolding after_streams all_attempts attempt_fields attempts_from event_rows instance_fields output_fields
    spelled_output_fields
returns c before =
    let says = c.in-Some.ensures.fields in
    let named = rw c.in-Some-2.is at c.in_ok-replace_names.ensures in
    rw (
      says.6,
      named.0,
      named.1,
      says.7,
      says.8,
      says.9,
      sym c.in-Some-read_stats.ensures,
      says.10,
      says.11,
      says.12,
      sym c.in_ok-stdout.ensures ∙ c.in-Some-3.is,
      sym c.in_ok-stderr.ensures ∙ c.in-Some-4.is,
    ) refl
