-- `orders::act` meets its contract: each way out is a law of `OrderLaws`.
use Rattle.entries.specs.Layouts.{draft_in}
use Rattle.orders.proofs.OrderLaws.{
  issue_acts,
  withdraw_acts,
  call_acts,
  forward_acts,
  lengths_rooms,
  lengths_row,
}
use Rattle.orders.proofs.act.Goals as goal

pub returns-in-Issue : goal.returns-in-Issue
returns-in-Issue c =
    record {
      lengths = c.requires;
      acts =
          issue_acts c.args.order (draft_in c.args.layout c.args.numbers.now) c.args.walk c.args.register.now
          c.args.defaults.now c.args.premiums.now c.args.row.now
          c.in-Issue.is c.issue.ensures.walk c.issue.ensures.says c.issue.ensures.leaves;
    }

pub returns-in-Withdraw : goal.returns-in-Withdraw
returns-in-Withdraw c =
    record {
      lengths = c.requires;
      acts =
          withdraw_acts c.args.order (draft_in c.args.layout c.args.numbers.now) c.args.walk c.args.register.now
          c.args.defaults.now c.args.premiums.now c.args.row.now
          c.in-Withdraw.is c.withdraw.ensures.walk c.withdraw.ensures.says c.withdraw.ensures.leaves;
    }

pub returns-in-Forward : goal.returns-in-Forward
returns-in-Forward c =
    record {
      lengths = lengths_row c.requires c.forward-answer.auto.row;
      acts =
          forward_acts c.args.order (draft_in c.args.layout c.args.numbers.now) c.args.walk c.args.register.now
          c.args.defaults.now c.args.premiums.now c.args.row.now
          c.in-Forward.is c.forward-answer.ensures;
    }

pub returns-in_default : goal.returns-in_default
returns-in_default c =
    record {
      lengths = lengths_rooms c.requires c.call.auto.defaults c.call.auto.premiums;
      acts =
          call_acts c.args.order (draft_in c.args.layout c.args.numbers.now) c.args.walk c.args.register.now
          c.args.defaults.now c.args.premiums.now c.args.row.now
          (record { issue = c.in_default.not-Issue; withdraw = c.in_default.not-Withdraw; forward = c.in_default.not-Forward })
          c.call.ensures;
    }
