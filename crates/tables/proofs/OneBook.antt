-- Words are those of one book and of no other: of the one that they show. Assumes nothing.
use mathlib.Core.Path.{◌≡◌, sym, ◌∙◌}
use mathlib.Core.List.{List}
use Prim.Native.Nat.{ℕ}
use Rattle.books.specs.Book.{Book}
use Rattle.books.proofs.RouteColumns.{shows_routes}
use Rattle.tables.specs.Adding.{Holds}
use Rattle.tables.proofs.Held.{messages_shown, routes_stand}

pub one_book : (w : List ℕ) (b c : Book) → Holds w b → Holds w c → b ≡ c
one_book w b c h k =
    let messages = sym (messages_shown w b h) ∙ messages_shown w c k in
    let routes =
    sym (shows_routes w b.routes h.within.routes (routes_stand w b h)) ∙ shows_routes w c.routes k.within.routes (routes_stand w c k)
    in
    λ i. record { messages = messages i; routes = routes i }
