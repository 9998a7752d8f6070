-- What lies on the console's desk when a request is met.
use Rattle.walks.specs.Rows.{Rows, rows, open_rows}
use Rattle.rules.specs.declared.Sizes.{Sizes}
use Rattle.commands.specs.declared.rows.Row.TheVariants.{Tails, Heads, Weights, Closed, X, Y, Boxes, Route}
use Rattle.lending.specs.Stores.{row, put}
use Rattle.lending.specs.declared.Desk.{Desk}
use Rattle.calls.specs.Calls.{Given, given}

-- the rows of the network, and those that the writers are lent
abbrev pub arc_rows : Desk → Rows
arc_rows d = rows (row Tails d) (row Heads d) (row Weights d) (row Closed d)

abbrev pub text_rows : Desk → Rows
text_rows d = open_rows (row Tails d) (row Heads d) (row Weights d)

-- the desk with other values in the first places of these rows
abbrev pub put_arcs : Rows → Desk → Desk
put_arcs R d = put Closed R.closures (put Weights R.weights (put Heads R.heads (put Tails R.tails d)))

abbrev pub with_sizes : Desk → Sizes → Desk
with_sizes d sizes = record d { sizes = sizes }

-- what a call is given: the lent places of its rows
abbrev pub lent_rows : Desk → Given
lent_rows d = given (arc_rows d) (row X d) (row Y d) (row Boxes d) (row Route d)

-- the desk once a call has given back the rows that calls write
abbrev pub given_back : Given → Desk → Desk
given_back g d = put Route g.route (put Boxes g.boxes (put Closed g.closures (put Weights g.weights d)))
