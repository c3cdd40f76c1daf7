-- The four event lists beside the boards.
use Rattle.std.specs.Prelude.{ℕ, []}
use Rattle.ring.specs.Listing.{Listing, listing}
use Rattle.board.specs.declared.collect.EventRecord.{EventRecord}
use Rattle.replay.specs.declared.lists.ListName.{ListName}
use Rattle.replay.specs.declared.lists.ListName.TheVariants.{Zero, One, Two, Seven}
use Rattle.replay.specs.declared.lists.Lists.{Lists}

-- the byte that says a list
abbrev pub list_number : ListName → ℕ
list_number Zero = 0
list_number One = 1
list_number Two = 2
list_number Seven = 3

abbrev pub list_of : Lists → ListName → Listing EventRecord
list_of u Zero = u.zero
list_of u One = u.one
list_of u Two = u.two
list_of u Seven = u.seven

-- the lists with another in place of one; the other three stay
abbrev pub with_list : Lists → ListName → Listing EventRecord → Lists
with_list u Zero l = record u { zero = l }
with_list u One l = record u { one = l }
with_list u Two l = record u { two = l }
with_list u Seven l = record u { seven = l }

-- the lists at first: nothing was listed, and there is room for 0, 1, 2 and 7 records
abbrev pub new_lists : Lists
new_lists = record { zero = listing [] 0 0; one = listing [] 0 1; two = listing [] 0 2; seven = listing [] 0 7 }
