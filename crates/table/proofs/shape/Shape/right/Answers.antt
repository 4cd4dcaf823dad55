-- `table::Shape::right` meets its contract: the rule is right by the tops and the ports of the shape, whatever its other numbers are.
-- Assumes nothing.
use Rattle.table.proofs.shape.Shape.right.Goals as goal

pub returns : goal.returns
returns c = let s = c.args.self.now in c.right.ensures s.most s.width s.head s.mark
