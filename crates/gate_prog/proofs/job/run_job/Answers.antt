use Rattle.gate_prog.proofs.job.run_job.Goals as goal

pub returns-in-Explain-clause-done : goal.returns-in-Explain-clause-done
returns-in-Explain-clause-done g c = rw c.in-Explain.is (rw c.as_str-in-Explain.ensures at c.run_explain.ensures.done)

pub returns-in-Explain-clause-stopped : goal.returns-in-Explain-clause-stopped
returns-in-Explain-clause-stopped g c = rw c.in-Explain.is (rw c.as_str-in-Explain.ensures at c.run_explain.ensures.stopped)
