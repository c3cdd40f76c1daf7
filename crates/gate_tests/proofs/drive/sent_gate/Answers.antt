use Rattle.gate_tests.proofs.drive.sent_gate.Goals as goal

pub returns : goal.returns
returns c =
    c.run-2.ensures.sound
    (c.run_long-3.ensures.sound
    (c.run_long-2.ensures.sound
    (c.run_long.ensures.sound (c.run.ensures.sound c.fresh-gate.ensures.sound))))
