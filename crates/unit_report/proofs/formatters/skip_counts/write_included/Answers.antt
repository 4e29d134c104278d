use Rattle.std.proofs.Common.{◌≡◌, Bool, true, false, not, [], ◌++◌, ◌&&◌, ◌||◌, if◌then◌else◌, refl}
use Rattle.styled_text.specs.Names.{Text}
use Rattle.unit_report.specs.SkipCounts.{included_text, rerun_text, filtered_text}
use Rattle.unit_report.proofs.formatters.skip_counts.write_included.Goals as goal

-- of three parts those that are there, with a word between two: by what there is, and by what there is not
parts_there : (a b c d : Text) (r t s : Bool)
    → (if not r || (not t || not s)
    then a ++ ((if not r then b else []) ++ ((if not r && (not t || not s) then c else [])
    ++ (if not t || not s then d else [])))
    else [])
    ≡ (if r && (t && s)
    then []
    else a ++ ((if r then [] else b) ++ ((if r || (t && s) then [] else c) ++ (if t && s then [] else d))))
parts_there a b c d true true true = refl
parts_there a b c d true true false = refl
parts_there a b c d true false s = refl
parts_there a b c d false true true = refl
parts_there a b c d false true false = refl
parts_there a b c d false false s = refl

pub returns : goal.returns
unfolding included_text rerun_text filtered_text
returns g c = rw (← parts_there _ _ _ _ _ _ _) c.write_to.ensures
