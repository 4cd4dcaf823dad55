-- THE WORST PACKET OF AN IMAGE, for the sheet of a timing analyst: 9, or the greatest count of blocks that a lookup over this image reads for any record of values within the tops, and the least record that reads so many. Records that no real header gives count too, as in Worst.antt.
-- What the call answers is `image_worst` of depths/specs/Depths.antt, by a search of the rules; here it is said by lookups over the image alone.
-- `Deepest` is what is claimed; proofs/Deepest.antt proves it. Assumes nothing.
use Rattle.std.specs.Prelude.{◌≡◌, ◌≢◌, List, ℕ, ◌+◌, ◌*◌, ◌≤◌, ◌<◌, ◌^◌, length}
use Rattle.model.specs.Ipv4.{kind_in}
use Rattle.search.specs.Search.{Less}
use Rattle.search.specs.Facts.{InTops}
use Rattle.image.specs.Image.{image_lookup, image_packet}
use Rattle.depths.specs.Depths.{image_worst}
use Rattle.demands.specs.Calls.{Passes, rules_in, field_count}
use Rattle.demands.specs.Demand1.{Refuses, done}
use Rattle.demands.specs.Dead.{no_record}
use Rattle.demands.specs.Frozen.{image_of, IsImage}

-- what is said of the image of a store that passes
pub record ToldOver (image : List ℕ) : Type 0 where
  -- the record is within the tops, and a lookup of it reads the blocks
  pub within : InTops (kind_in image) (image_worst (kind_in image) image).value
  pub taken : ((image_lookup (kind_in image) image (image_worst (kind_in image) image).value).answer ≡ 0) × ((image_lookup (kind_in image) image (image_worst (kind_in image) image).value).reads ≡ (image_worst (kind_in image) image).reads)
  -- none reads more, and every lesser record, compared field by field from field 1, reads fewer
  pub no_more : (vs : List ℕ) → InTops (kind_in image) vs → (image_lookup (kind_in image) image vs).reads ≤ (image_worst (kind_in image) image).reads
  pub fewer : (vs : List ℕ) → InTops (kind_in image) vs → Less vs (image_worst (kind_in image) image).value → (image_lookup (kind_in image) image vs).reads < (image_worst (kind_in image) image).reads
  -- so no packet reads more, whatever its bytes
  pub no_packet : (bytes : List ℕ) → (image_packet image bytes).reads ≤ (image_worst (kind_in image) image).reads
  -- it is at least a block for each field, and at most 24
  pub least : field_count (kind_in image) ≤ (image_worst (kind_in image) image).reads
  pub most_24 : (image_worst (kind_in image) image).reads ≤ 24

pub record Deepest : Type 0 where
  -- 9 exactly when the image check fails, and then zeros
  pub answer : (image : List ℕ) → Refuses 9 (IsImage image → ⊥) done (image_worst (kind_in image) image).answer
  pub refused : (image : List ℕ) → (image_worst (kind_in image) image).answer ≢ 0 → ((image_worst (kind_in image) image).reads ≡ 0) × ((image_worst (kind_in image) image).value ≡ no_record)
  pub told : (image : List ℕ) → IsImage image → ToldOver image
  -- it is within the bound for any table of as many rules: "at most the number of fields times the least L for 2 × n + 1"
  pub tight : (ws : List ℕ) → Passes (kind_in ws) ws → (L : ℕ) → 1 ≤ L → 2 * length (rules_in (kind_in ws) ws) + 1 ≤ 8 ^ L → (image_worst (kind_in (image_of ws)) (image_of ws)).reads ≤ field_count (kind_in ws) * L
