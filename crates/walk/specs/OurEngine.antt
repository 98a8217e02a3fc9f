-- Our engine: the functions that the contracts of the code name, with answers in document 01's terms.
use Rattle.std.specs.Prelude.{ℕ, List}
use Rattle.register.specs.Register.{Write, issue, withdraw, answer_of, leaves_of}
use Rattle.walk.specs.Answers.{said_of, said_by}
use Rattle.walk.specs.Calls.{Outcome, ForwardOutcome, open_call, back_call, value_call, ratio_call, forward_call}
use Rattle.walk.specs.CallRules.{RegisterResult, WalkResult, ForwardResult}
use Rattle.walk.specs.Engine.{Engine}

-- What the register's functions answer and leave.
abbrev pub write_call : Write → List ℕ → ℕ → RegisterResult
write_call write register number = record { said = said_by (answer_of write register number); register = leaves_of write register number }

-- What the calls of the walk answer and leave.
abbrev pub walk_result : Outcome → WalkResult
walk_result o = record { said = said_of o.answer; walk = o.walk; rows = o.rows }

abbrev pub forward_result : ForwardOutcome → ForwardResult
forward_result o = record { said = said_of o.answer; row = o.row }

abbrev pub ours : Engine
ours =
    record {
      issue = write_call issue;
      withdraw = write_call withdraw;
      opening = λ x register walk rows. walk_result (open_call x register walk rows);
      back = λ x register walk rows c. walk_result (back_call x register walk rows c);
      value = λ x register walk rows j k. walk_result (value_call x register walk rows j k);
      ratio = λ x register walk rows j k. walk_result (ratio_call x register walk rows j k);
      forward = λ x register row i. forward_result (forward_call x register row i);
    }
