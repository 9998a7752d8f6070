use Rattle.std.proofs.Common.{length}
use Rattle.scan.proofs.fields.+match_fields.Given as goal

abbrev pub decreases-match_fields : goal.decreases-match_fields
decreases-match_fields l = length l.form.now
