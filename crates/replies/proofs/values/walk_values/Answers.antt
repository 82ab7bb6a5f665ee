-- `replies::values::walk_values` meets its contract: ending by ending.
use Rattle.model.specs.Answers.{walked_answer}
use Rattle.replies.specs.Replies.{place_of, told}
use Rattle.replies.proofs.values.walk_values.Goals as goal

pub returns-in-Home : goal.returns-in-Home
unfolding told place_of walked_answer
returns-in-Home c = rw c.in-Home.is

pub returns-in-Loose : goal.returns-in-Loose
unfolding told place_of walked_answer
returns-in-Loose c = rw c.in-Loose.is
