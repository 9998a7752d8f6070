-- `lending::Desk::clear` meets its contract.
use Rattle.std.proofs.Common.{ap}
use Rattle.lending.specs.Stores.{Stores, all_lent, on_desk}
use Rattle.lending.proofs.Desk.clear.Goals as goal

pub returns : goal.returns
returns c = rw c.all-self.ensures (ap (λ (s : Stores). record (on_desk s c.args.self.now) { sizes = record { n = 0; m = 0 }; lent = all_lent }) c.clear_rows.ensures)
