use Rattle.pcl_command.proofs.Finest.{finer_there, refused_there, unlike_there}
use Rattle.pcl_command.proofs.comparisons.finest.Goals as goal

pub returns-in-Ok-Same : goal.returns-in-Ok-Same
returns-in-Ok-Same c =
    finer_there c.args.asks c.args.widest c.args.first.now c.args.second.now _
    (rw c.in-Ok-Same.field-0-is at c.in-Ok-Same.ensures) c.finer.ensures

pub returns-in-Ok-Pages : goal.returns-in-Ok-Pages
returns-in-Ok-Pages c =
    unlike_there c.args.asks c.args.widest c.args.first.now c.args.second.now _
    (λ same. cc (same, c.in-Ok-Pages.field-0-is)) c.in-Ok-Pages.ensures

pub returns-in-Ok-Asks : goal.returns-in-Ok-Asks
returns-in-Ok-Asks c =
    unlike_there c.args.asks c.args.widest c.args.first.now c.args.second.now _
    (λ same. cc (same, c.in-Ok-Asks.field-0-is)) c.in-Ok-Asks.ensures

pub returns-in-Err-Refused : goal.returns-in-Err-Refused
returns-in-Err-Refused c =
    refused_there c.args.asks c.args.widest c.args.first.now c.args.second.now c.in-Err-Refused.field-0-0 c.in-Err-Refused.field-0-1
    (rw c.in-Err-Refused.field-0-is at c.in-Err-Refused.ensures)
