use Rattle.scenes.proofs.report.judge.Goals as goal

pub returns-in-Ok-clause-accepted : goal.returns-in-Ok-clause-accepted
returns-in-Ok-clause-accepted g c = rw (← c.text.ensures.text) c.in-Ok.ensures.accepted

pub returns-clause-fault : goal.returns-clause-fault
returns-clause-fault g c = c.in-Err.ensures.fault.1

pub returns-clause-first_fault : goal.returns-clause-first_fault
returns-clause-first_fault g c = λ text known.
    rw (← c.in_ok-scene.ensures.scene text known, ← c.text.ensures.text) c.in-Err.ensures.fault.0
