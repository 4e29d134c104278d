-- What a run skips, for a profile name without escape characters (for the line of its start).
use Rattle.std.proofs.Common.{ℕ, Bool, codes, refl}
use Rattle.{styled_text.specs.Names.Text, styled_text.specs.Names.HasNoEscape}
use Rattle.{styled_text.proofs.lemmas.Widths.free_both, report_words.proofs.lemmas.PartsInColour.AreFree}
use Rattle.run_model.specs.{Names.CompiledDefaultFilter, Names.CompiledDefaultFilterSection, Names.NextestRunMode}
use Rattle.run_model.specs.{declared.event.SkipCounts.SkipCounts}
use Rattle.run_names.specs.declared.config.CompiledDefaultFilterSection.TheVariants.{Profile, Override}
use Rattle.unit_report.specs.SkipCounts.{override_name, filter_name, via_filter, filtered_text, included_text}
use Rattle.unit_report.specs.SkipCounts.{skip_reason, skip_note}

free-filter_name : (k : Bool) (profile : Text) (place : CompiledDefaultFilterSection) → HasNoEscape profile
    → AreFree k (filter_name profile place)
unfolding override_name
free-filter_name k profile Profile h = free_both profile (codes ".default-filter") h refl
free-filter_name k profile (Override place) h = (tt, (tt, free_both profile (codes ".overrides") h refl))

pub free-skip_note : (k : Bool) (mode : NextestRunMode) (n : ℕ) (c : SkipCounts) (f : CompiledDefaultFilter)
    → HasNoEscape f.profile → AreFree k (skip_note mode n c f)
unfolding skip_note skip_reason included_text filtered_text via_filter
free-skip_note k mode n c f h =
    let via : AreFree k (via_filter f) = (tt, free-filter_name k f.profile f.section h) in
    (tt, (tt, (tt, (tt, (tt, ((tt, (via, (tt, (tt, (tt, (tt, (tt, (tt, via)))))))), tt))))))
