-- `build::build` leaves the rules and behind them the part of their tree. Assumes nothing.
use mathlib.Core.Path.{refl, ◌∙◌}
use native.Mathlib.Omega.{arith}
use Prim.Native.Nat.{◌+◌}
use lib.ListN.{set, length-drop}
use Rattle.model.specs.Rules.{stop}
use Rattle.cells.proofs.Lent.{put_drop, put_take, whole}
use Rattle.build.proofs.Part.{part_spare, part_planted}
use Rattle.build.proofs.build.Goals as goal

pub build_chain-first-requires : goal.build_chain-first-requires
build_chain-first-requires c =
    let p = c.requires in record {
      inside = p.inside;
      room = record { a = _; more = _; q = _; state = part_spare _ p.bare p.room p.most };
      scratch = p.scratch;
      depth = omega (arith, p.depth);
    }

pub bounds-words-base : goal.bounds-words-base
bounds-words-base c =
    let b = c.build_chain-first in
    let p = c.requires in
    omega (arith, b.auto.words, (part_spare stop p.bare (omega arith) p.most).tot, length-drop c.args.base c.args.words.now)

pub returns : goal.returns
returns c =
    let b = c.build_chain-first in
    let p = c.requires in
    let l = b.new.words in
    let i = c.args.base + 1 in
    whole c.args.base (set l i b.result.down) (put_take c.args.base l i _ (omega arith) ∙ b.ensures.kept) (put_drop c.args.base l i 1 _ refl ∙ part_planted (b.ensures.builds _ _ _ (part_spare _ p.bare p.room p.most)))
