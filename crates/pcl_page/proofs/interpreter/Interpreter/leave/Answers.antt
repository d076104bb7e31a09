use Rattle.pcl_page.proofs.interpreter.Interpreter.leave.Goals as goal

pub returns-in-Some-clause-situation : goal.returns-in-Some-clause-situation
returns-in-Some-clause-situation c = λ s i.
    rw c.in-Some.is (record {
      is_in = c.end_call.ensures.situation s i.is_in;
      macros = i.macros;
      begun = i.begun;
    })
