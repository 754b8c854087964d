-- The statuses of calls.
use Rattle.std.specs.Prelude.{ℕ}

-- complete: an envelope has ended, or the requested value was written
abbrev pub done : ℕ
done = 0

-- all octets were consumed, and the envelope can continue
abbrev pub more : ℕ
more = 1

-- an octet, or a line of a script, is rejected
abbrev pub refused : ℕ
refused = 2

-- the input ends inside an envelope
abbrev pub truncated : ℕ
truncated = 3

-- there is no dataset with this index
abbrev pub none : ℕ
none = 4

-- a buffer is too short
abbrev pub short : ℕ
short = 5

-- an allocation failed
abbrev pub no_memory : ℕ
no_memory = 6

-- the octets are not a ticket from which the call can continue
abbrev pub bad_ticket : ℕ
bad_ticket = 7

-- the options for packing are invalid
abbrev pub bad_packing : ℕ
bad_packing = 8

-- the instant is invalid
abbrev pub bad_instant : ℕ
bad_instant = 9
