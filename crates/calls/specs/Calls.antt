-- The words of the calls, and how many numbers each is given.
-- Assumes nothing: these are definitions.
use Rattle.std.specs.Prelude.{ℕ, List, codes}
use Rattle.calls.specs.declared.Call.{Call}
use Rattle.calls.specs.declared.Call.TheVariants.{Room, Swap, Same, Start, Insert, Delete, Read, Cells, Check, Lookup, Packet, Header}

-- the word of a call
abbrev pub word_of : Call → List ℕ
word_of Room = codes "room"
word_of Swap = codes "swap"
word_of Same = codes "same"
word_of Start = codes "start"
word_of Insert = codes "insert"
word_of Delete = codes "delete"
word_of Read = codes "read"
word_of Cells = codes "cells"
word_of Check = codes "check"
word_of Lookup = codes "lookup"
word_of Packet = codes "packet"
word_of Header = codes "header"

-- how many numbers a call is given
abbrev pub given_to : Call → ℕ
given_to Room = 2
given_to Swap = 0
given_to Same = 0
given_to Start = 2
given_to Insert = 14
given_to Delete = 1
given_to Read = 1
given_to Cells = 0
given_to Check = 0
given_to Lookup = 6
given_to Packet = 0
given_to Header = 0
