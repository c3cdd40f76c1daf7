-- A board's own event list, and the two readers that stand at places of their own.
use Rattle.std.specs.Prelude.{ℕ, [], Some, None, Option}
use Rattle.std.specs.Option.{option_map}
use Rattle.ring.specs.Listing.{listing}
use Rattle.ring.specs.Places.{read_at, without_oldest}
use Rattle.board.specs.declared.collect.EventRecord.{EventRecord}
use Rattle.board.specs.Acts.{State, list_after_collect}
use Rattle.script.specs.declared.log.Log.{Log}
use Rattle.script.specs.declared.log.Reader.{Reader}
use Rattle.script.specs.declared.log.Reader.TheVariants.{Panel, Book}

-- nothing listed, room for n records, and both readers at place 0
abbrev pub new_log : ℕ → Log
new_log n = record { list = listing [] 0 n; panel = 0; book = 0 }

-- the place at which a reader stands
abbrev pub reader_place : Reader → Log → ℕ
reader_place Panel log = log.panel
reader_place Book log = log.book

abbrev pub with_reader_at : Reader → ℕ → Log → Log
with_reader_at Panel p log = record log { panel = p }
with_reader_at Book p log = record log { book = p }

-- what a reader comes to next: a record with the next place, or nothing at the end
abbrev pub next_of : Reader → Log → Option (EventRecord × ℕ)
next_of reader log = read_at log.list (reader_place reader log)

abbrev pub next_record : Reader → Log → Option EventRecord
next_record reader log = option_map (λ p. p.0) (next_of reader log)

-- a reader that read stands at the next place, and one that came to the end stays
abbrev pub with_reader_behind : Reader → Option (EventRecord × ℕ) → Log → Log
with_reader_behind reader (Some p) log = with_reader_at reader p.1 log
with_reader_behind reader None log = log

abbrev pub log_after_next : Reader → Log → Log
log_after_next reader log = with_reader_behind reader (next_of reader log) log

abbrev pub log_after_remove : Log → Log
log_after_remove log = record log { list = without_oldest log.list 1 }

-- after a collect of gate n of a board in state s
abbrev pub log_after_collect : State → ℕ → Log → Log
log_after_collect s n log = record log { list = list_after_collect s n log.list }
