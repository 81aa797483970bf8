use Rattle.gate_c.proofs.Answering.{line_called}
use Rattle.gate_c.proofs.calls.answer_reading.Goals as goal

pub returns-in-Ok-clause-as_line : goal.returns-in-Ok-clause-as_line
returns-in-Ok-clause-as_line c = λ line read.
    line_called c.args.session.now c.answer.new.self c.repeat_answer.new.session line c.args.reading.now c.args.out.now c.repeat_answer.new.out
    c.repeat_answer.new.size _ read c.in-Ok.ensures.ok c.answer.ensures.opened c.answer.ensures.moves c.answer.ensures.counted
    c.in-Ok.ensures.said c.repeat_answer.ensures
