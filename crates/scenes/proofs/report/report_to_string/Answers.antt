use Rattle.std.proofs.Common.{[], ◌≡◌, ◌∙◌, ℕ, List, None, Some, IfErr, OnOk, ap, subst, sym}
use Rattle.scene_follower.proofs.Common.{Follows, SceneConfig, string_meaning, text_lines}
use Rattle.scene_follower.specs.Names.{IsSetFor}
use Rattle.{scene_follower.proofs.lemmas.ReadLines.whole_left}
use Rattle.scenes.specs.Gathered.{HasFollowed}
use Rattle.scenes.specs.Names.{IsRefusal}
use Rattle.scenes.proofs.lemmas.Gathered.{gathered_printed, gathers_judges, IsJudged, passed_judged, read_refusal}
use Rattle.scenes.proofs.lemmas.Gathered.{refused_held, run_is}
use Rattle.scenes.proofs.lemmas.{Gathered.whole_so, SceneCalls.unconfigured_stops}
use Rattle.scenes.proofs.report.report_to_string.Given as given
use Rattle.scenes.proofs.report.report_to_string.Goals.{After-pass_to}
use Rattle.scenes.proofs.report.report_to_string.Goals as goal

-- all lines were gathered, or a fault stopped them
ended : (g : given.Over) (c : After-pass_to g) (text : List ℕ) → g.R.Read.remaining c.args.reader ≡ Some text
    → OnOk c.pass_to.result (IsJudged c.args.options.now (text_lines text)
    (λ run. HasFollowed c.args.options.now (c.new-text.result, None) run c.pass_to.new.sink.reporter)
    c.pass_to.new.sink.refused)
    × IfErr c.pass_to.result (IsRefusal c.args.options.now (text_lines text))
ended g c text known =
    let options = c.args.options.now in
    let h = c.in-Ok-begin.ensures 0 (text_lines text) (whole_left _ _ c.in-Ok.ensures.1 text (c.in-Ok.ensures.0
    ∙ known)) in
    let made = c.build-reporter.ensures in
    let builder = c.in-Ok-builder_of.ensures.ok in
    let asked = sym c.requires.no_store in
    let same = sym c.new-gathering.ensures.reporter in
    let read = c.in-Ok-begin.reading.read in
    passed_judged (gathers_judges options c.requires.no_store (c.new-text.result, None)) (text_lines text) _ read h
    c.new-gathering.result c.pass_to.new.sink c.new-gathering.ensures.refused (
      subst (λ (x : SceneConfig). IsSetFor options x c.new-gathering.result.reporter) (ap (λ b. b.config) h.before)
          (subst (IsSetFor options read.config) same (made.set builder asked)),
      subst (Follows string_meaning string_meaning options (c.new-text.result, None) c.new-gathering.result.reporter)
          (run_is (text_lines text) _ read h)
          (subst
          (λ r. Follows string_meaning string_meaning options (c.new-text.result, None) r
          (record { config = read.config; events = [] })) same (made.start builder asked tt tt)),
    ) _ c.pass_to.result (c.pass_to.ensures 0 h.run h.lines h.before h.left.0)

pub returns-in-Err-clause-fault : goal.returns-in-Err-clause-fault
returns-in-Err-clause-fault g c = λ text known. read_refusal c.args.options.now (text_lines text) c.in-Err.fault
    (unconfigured_stops c.args.options.now.file.now _ _ (c.in-Err.ensures 0 (text_lines text)
    (whole_left _ _ c.in-Ok.ensures.1 text (c.in-Ok.ensures.0 ∙ known))))

pub returns-in-Err-pass_to-clause-fault : goal.returns-in-Err-pass_to-clause-fault
returns-in-Err-pass_to-clause-fault g c = λ text known.
    (rw c.in-Err-pass_to.is at (ended g (goal.at.returns-in-Err-pass_to-clause-fault g c).After-pass_to text known)).1

pub returns-in-Some-clause-fault : goal.returns-in-Some-clause-fault
returns-in-Some-clause-fault g c = λ text known.
    let all = rw c.in-Ok-pass_to.is at (ended g (goal.at.returns-in-Some-clause-fault g c).After-pass_to text known) in
    refused_held _ _ c.in-Some.is all.0

pub returns-clause-report : goal.returns-clause-report
returns-clause-report g c = λ text known.
    let all = rw c.in-Ok-pass_to.is at (ended g (goal.at.returns-clause-report g c).After-pass_to text known) in
    rw (c.replace.ensures.value, c.into_parts-report.ensures.writer)
    (gathered_printed c.args.options.now c.requires.no_store (c.new-text.result, None) (text_lines text) _
    c.new-text.ensures.bytes (whole_so _ c.in-None.is all.0))
