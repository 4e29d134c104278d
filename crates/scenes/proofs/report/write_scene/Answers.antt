use Rattle.std.proofs.Common.{inl, inr, refl}
use Rattle.std.proofs.lemmas.Result.{IfErr-weaker}
use Rattle.scenes.proofs.lemmas.WrittenReports.{refused_scene}
use Rattle.scenes.proofs.report.write_scene.Goals as goal

pub returns-in-Err-clause-err : goal.returns-in-Err-clause-err
returns-in-Err-clause-err g c = rw c.in_memory.ensures
    (inl (
      refused_scene c.args.options.now c.args.scene.now.text _ c.text.ensures.of_text c.in-Err.fault
          (rw c.text.ensures.text at c.in-Err.ensures.fault.0),
      refl,
      refl,
    ))

pub returns-clause-ok : goal.returns-clause-ok
returns-clause-ok g c = rw c.text-2.ensures.text at c.report_judged.ensures.ok

pub returns-clause-err : goal.returns-clause-err
returns-clause-err g c = IfErr-weaker _ _ _ (λ fault h. inr h)
    (rw c.text-2.ensures.text at
    (c.report_judged.ensures.err (rw c.text-2.ensures.text (rw c.text.ensures.text at c.in-Ok.ensures.accepted))))
