-- Refusal 12, exactly: the tables of a lent book are those of a taken book exactly when some text is taken with them. Assumes nothing.
use mathlib.Core.Path.{◌≡◌}
use Prim.Native.Nat.{ℕ, ◌<◌}
use native.Mathlib.Omega.{arith}
use mathlib.Core.Bool.{true}
use mathlib.Core.List.{List, [], ◌∷◌}
use Rattle.chains.specs.Chain.{Chain}
use Rattle.books.specs.Book.{Book}
use Rattle.books.specs.Built.{Built, none}
use Rattle.books.specs.Words.{messages_taken_spec, messages_of}
use Rattle.books.proofs.Building.{good_built, built_good}
use Rattle.books.proofs.Columns.{taken_stands, stands_taken}
use Rattle.reading.specs.Written.{book_text, no_route, Routed}
use Rattle.reading.specs.Taken.{SoundRoutes, TakenWith, MessagesFrom, RoutesFrom, RoutesIn}
use Rattle.reading.proofs.Passing.{read_built}
use Rattle.reading.proofs.Texts.{text_read}
use Rattle.reading.proofs.Bound.{bound}
use Rattle.reading.proofs.Counts.{text_routed}

-- a book that lines build, with sound routes, is that of a taken text: its own
pub has_text : (b : Book) → Built b.messages → Routed b.routes → SoundRoutes b.routes → TakenWith (book_text b) b
has_text b h r s = record {
  short = omega (arith, bound b h r);
  at = _;
  read = text_read b h r.places r.few;
  sound = s;
}

no_chain : (p q : ℕ) (c : List ℕ) → Chain [] [] p c q → ⊥
no_chain p q [] h = h
no_chain p q (i ∷ c) h = let z : i < 0 = h.0 in omega arith

pub no_routes_sound : SoundRoutes []
no_routes_sound = record { loop_free = λ p c h. no_chain p p c h; single = λ p q c d h. no_chain p q c h.one }

pub from_messages : (w : List ℕ) → messages_taken_spec w ≡ true → MessagesFrom w
from_messages w e =
    let t = taken_stands w e in
    let b : Book = record { messages = messages_of w; routes = [] } in
    record {
      text = book_text b;
      book = b;
      taken = has_text b (good_built (messages_of w) t.1) (record { few = omega arith; places = no_route }) no_routes_sound;
      stand = t.0;
    }

pub messages_from : (w : List ℕ) → MessagesFrom w → messages_taken_spec w ≡ true
messages_from w m = stands_taken w m.book.messages m.stand (built_good (read_built m.text m.taken.read))

pub from_routes : (w : List ℕ) → RoutesIn w → RoutesFrom w
from_routes w r =
    let b : Book = record { messages = []; routes = r.routes } in
    record { text = book_text b; book = b; taken = has_text b none r.routed r.sound; stand = r.stand }

pub routes_from_law : (w : List ℕ) → RoutesFrom w → RoutesIn w
routes_from_law w f = record { routes = f.book.routes; routed = text_routed f.text f.taken.read; sound = f.taken.sound; stand = f.stand }
