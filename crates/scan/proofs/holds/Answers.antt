-- `scan::holds` meets its contract: each of the six tests is that of a field.
-- Assumes nothing.
use Rattle.std.proofs.Common.{rules, tests, refl, ◌≡◌, ℕ, List, Bool, ◌&&◌, leb, get_or}
use Rattle.std.specs.List.{list_all, range_with_len}
use Rattle.std.proofs.lemmas.Iterator.{YieldsList-from_range}
use Rattle.std.proofs.lemmas.Iterator.Search.{all_from_yields_List}
use Rattle.model.specs.Lists.{up_to}
use Rattle.scan.proofs.holds.Goals as goal

pub returns : goal.returns
unfolding up_to
returns c =
    let rule = c.args.rule.now in
    let test : List ℕ → ℕ → Bool = λ vs i. leb (get_or rule.low i 0) (get_or vs i 0) && leb (get_or vs i 0) (get_or rule.high i 0) in
    let e : c.all.result ≡ list_all (test c.values-values.result) (range_with_len 0 6) =
    all_from_yields_List (test c.values-values.result) _ _ c.all.result c.all.ensures.ran (YieldsList-from_range 0 6 6 refl refl) (λ x b q k. search (rules, tests)) in
    rw c.values-values.ensures at e
