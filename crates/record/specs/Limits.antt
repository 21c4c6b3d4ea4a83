-- The limits of a route book ("The route book": Limits). Assumes nothing: these are definitions.
use Rattle.std.specs.Prelude.{ℕ}

-- how many lines of each kind a book may have
abbrev pub message_limit : ℕ
message_limit = 64

abbrev pub signal_limit : ℕ
signal_limit = 256

abbrev pub route_limit : ℕ
route_limit = 64

-- buses are 0 to 7
abbrev pub bus_limit : ℕ
bus_limit = 8

-- identifiers are below 2^29
abbrev pub identifier_limit : ℕ
identifier_limit = 536870912

-- starts are 0 to 63
abbrev pub start_limit : ℕ
start_limit = 64

-- the longest text, in bytes
abbrev pub text_limit : ℕ
text_limit = 32768
