-- `requests::meet` meets its contract.
use Rattle.desk.specs.Requests.{Meets}
use Rattle.requests.proofs.meet.Goals as goal

pub returns-in-SetN : goal.returns-in-SetN
returns-in-SetN c = rw (c.in-SetN.is, c.put_ok.ensures.text) Meets.set_n

pub returns-in-SetM : goal.returns-in-SetM
returns-in-SetM c = rw (c.in-SetM.is, c.put_ok-in-SetM.ensures.text) Meets.set_m

pub returns-in-Show : goal.returns-in-Show
returns-in-Show c = rw (c.in-Show.is, c.show_row.ensures) Meets.show

pub returns-in-Help : goal.returns-in-Help
returns-in-Help c = rw (c.in-Help.is, c.put_help.ensures.text) Meets.help
