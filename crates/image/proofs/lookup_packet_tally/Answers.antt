-- `image::lookup_packet_tally` meets its contract: what is counted is what the lookup by the packet says.
-- Assumes nothing.
use Rattle.image.proofs.Steps.{long, image_does}
use Rattle.image.proofs.lookup_packet_tally.Goals as goal

pub count_found-requires : goal.count_found-requires
count_found-requires c = long _ _ c.lookup_packet.ensures

pub returns : goal.returns
returns c =
    let d = c.count_found.ensures in
    let e = image_does _ _ _ c.lookup_packet.ensures _ _ _ (d.answer, d.left) in
    record { answer = e.0; left = e.1 }
