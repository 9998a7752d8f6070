-- The signs that are lent.
use Rattle.passing.specs.Signs.{Signs, signs}
use Rattle.passing.specs.declared.Signs.{Signs as SignsLent}

abbrev pub signs_of : SignsLent → Signs
signs_of G = signs G.nodes.x.now G.nodes.y.now G.boxes.now G.nodes.modules.now G.masks.now
