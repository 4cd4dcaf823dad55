-- A number of 64 bits has at most 20 digits, and they stand in the lines with the byte behind them.
-- Assumes nothing.
use Rattle.std.proofs.Common.{◌≡◌, ◌∙◌, arith}
use Rattle.std.specs.Fmt.{decimal}
use Rattle.listing.proofs.Text.{put_text}
use Rattle.listing.proofs.put.Goals as goal

pub returns : goal.returns
returns c =
    let a = c.args in
    let t : c.as_bytes-text.result.now ≡ decimal a.n = c.as_bytes-text.ensures.value ∙ c.format.ensures.text in
    let p = put_text a.lines.now c.as_bytes-text.result.now a.at a.n a.behind c.ranges.n.fits c.requires t in
    (omega (arith, p.0), rw c.copy.ensures p.1)
