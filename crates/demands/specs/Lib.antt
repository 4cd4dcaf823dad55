-- To be read in this order: what the demands speak of, a store by its links and why a lookup answers 9, the three demands, with request P5 in the first, what the store check says, document 01's starred list, the tallies of request P1, the scan of request P2, packets without ports, request P4, rules that never win, request P6, the worst packet of a table, an image by its blocks and why a lookup over it answers 9, the frozen table, request P8, the worst packet of an image, carrying a table into a new store, request P9, and lists of edits, request P10.
pub mod Calls
pub mod Links
pub mod Demand1
pub mod Demand2
pub mod Demand3
pub mod Check
pub mod Bench
pub mod Tally
pub mod Scan
pub mod Portless
pub mod Dead
pub mod Worst
pub mod Blocks
pub mod Frozen
pub mod Deepest
pub mod Carry
pub mod AllOrNone
