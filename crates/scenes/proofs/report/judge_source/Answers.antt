use Rattle.std.proofs.Common.{◌≡◌, ◌∙◌, ℕ, List, [], ap, IfErr, OnOk}
use Rattle.scene_follower.proofs.Common.{decider_for, no_lines, RunLine}
use Rattle.scenes.specs.Names.{IsRefusal, IsRunAccepted, JudgesCall}
use Rattle.scenes.specs.declared.judge.{Judge.Judge}
use Rattle.scenes.proofs.lemmas.Gathered.{IsJudged, judge_begins, judges, passed_judged, read_refusal, refused_held}
use Rattle.scenes.proofs.lemmas.Gathered.{whole_so}
use Rattle.scenes.proofs.lemmas.Kept.{all_left}
use Rattle.scenes.proofs.lemmas.SceneCalls.{for_both, unconfigured_stops}
use Rattle.scenes.proofs.report.judge_source.Given as given
use Rattle.scenes.proofs.report.judge_source.Goals.{After-pass_to}
use Rattle.scenes.proofs.report.judge_source.Goals as goal

-- all lines were judged, or a fault stopped them
ended : (g : given.Over) (c : After-pass_to g) (total : ℕ) (all : List RunLine)
    → g.L.RunSource.left total c.args.source.now [] no_lines all
    → OnOk c.pass_to.result (IsJudged c.args.options.now all
    (λ r. (c.pass_to.new.sink.decider ≡ decider_for c.args.options.now r.config) × IsRunAccepted c.args.options.now r)
    c.pass_to.new.sink.refused)
    × IfErr c.pass_to.result (IsRefusal c.args.options.now all)
ended g c total all known =
    let options = c.args.options.now in
    let h = c.in-Ok.ensures total all known in
    passed_judged (judges options options.file.now) all _ c.in-Ok.reading.read h c.new-judge.result
    c.pass_to.new.sink c.new-judge.ensures.refused
    (judge_begins options h.run c.in-Ok.reading.read.config c.new-judge.result h.none
    (ap (λ b. b.config) h.before) (c.new-judge.ensures.decider ∙ c.decider_of.ensures)) _ c.pass_to.result
    (c.pass_to.ensures total h.run h.lines h.before h.left.0)

pub returns-in-Err-clause-fault : goal.returns-in-Err-clause-fault
returns-in-Err-clause-fault g c = λ total all known. read_refusal c.args.options.now all c.in-Err.fault
    (unconfigured_stops c.args.options.now.file.now _ _ (c.in-Err.ensures total all known))

pub returns-in-Err-pass_to-clause-fault : goal.returns-in-Err-pass_to-clause-fault
returns-in-Err-pass_to-clause-fault g c = λ total all known.
    (rw c.in-Err-pass_to.is at
    (ended g (goal.at.returns-in-Err-pass_to-clause-fault g c).After-pass_to total all known)).1

pub returns-in-None-clause-accepted : goal.returns-in-None-clause-accepted
returns-in-None-clause-accepted g c = λ total all known.
    let judged = rw c.in-Ok-pass_to.is at
    (ended g (goal.at.returns-in-None-clause-accepted g c).After-pass_to total all known) in
    let h = c.in-Ok.ensures total all known in
    let passed = rw c.in-Ok-pass_to.is at (c.pass_to.ensures total h.run h.lines h.before h.left.0) in
    for_both (whole_so _ c.in-None.is judged.0)
    (all_left {K = Judge} (λ old f. JudgesCall old) c.args.options.now.file.now all h.run passed.ok.0 h.lines
    c.in-Ok.reading.read.next h.at
    c.new-judge.result c.pass_to.new.sink (g.L.RunSource.left total c.pass_to.new.source []) (passed.ok.1, passed.ok.2))
    (λ run good left. (good.1, left))

pub returns-clause-fault : goal.returns-clause-fault
returns-clause-fault g c = λ total all known.
    let judged = rw c.in-Ok-pass_to.is at
    (ended g (goal.at.returns-clause-fault g c).After-pass_to total all known) in
    refused_held _ _ c.in-Some.is judged.0
