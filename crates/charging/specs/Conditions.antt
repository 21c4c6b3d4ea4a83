-- The six conditions of a charge, in the words of document 02, P5, and in its order. Assumes nothing.
use Rattle.std.specs.Prelude.{Bool, ◌&&◌, ◌||◌, List, [], ◌∷◌}
use Rattle.charging.specs.declared.ChargeObservation.{ChargeObservation}
use Rattle.charging.specs.Observed.{count_is}

abbrev pub Condition : Type 0
Condition = ChargeObservation → Bool

-- "plug seen (1708 is 1, 2 or 3)"
abbrev pub plug_seen : Condition
plug_seen seen = count_is 1708 1 seen || count_is 1708 2 seen || count_is 1708 3 seen

-- "self-check good (1605 is 0)"
abbrev pub self_check_good : Condition
self_check_good seen = count_is 1605 0 seen

-- "no welded fault in 311, 313, 325, 327"
abbrev pub no_welded_fault : Condition
no_welded_fault seen = count_is 311 0 seen && count_is 313 0 seen && count_is 325 0 seen && count_is 327 0 seen

-- "main relays closed (301 and 302 are 2)"
abbrev pub main_relays_closed : Condition
main_relays_closed seen = count_is 301 2 seen && count_is 302 2 seen

-- "charging allowed (1709 is 1)"
abbrev pub charging_allowed : Condition
charging_allowed seen = count_is 1709 1 seen

-- "charge relays closed (304 and 306 are 2)"
abbrev pub charge_relays_closed : Condition
charge_relays_closed seen = count_is 304 2 seen && count_is 306 2 seen

-- "These are six conditions in that order"
unfoldable pub conditions : List Condition
conditions =
    plug_seen
    ∷ self_check_good
    ∷ no_welded_fault
    ∷ main_relays_closed
    ∷ charging_allowed
    ∷ charge_relays_closed
    ∷ []
