-- The first line of a text by the fields that are found after its kind. Assumes nothing.
use mathlib.Core.Path.{◌≡◌, sym, ap, ◌∙◌}
use mathlib.Core.Logic.{◌⊎◌, inl, inr}
use mathlib.Core.List.{List, ◌∷◌, ◌++◌, append_assoc}
use Prim.Native.Nat.{ℕ, ◌+◌, ◌-◌, ◌≤◌, ◌<◌}
use native.Mathlib.Omega.{arith}
use lib.ListN.{length, take, drop, length-append}
use Rattle.std.proofs.lemmas.List.{take_rest}
use Rattle.std.specs.Prelude.{Option, Some, None}
use Rattle.numerals.specs.Numeral.{identifier, decimal}
use Rattle.numerals.specs.Written.{identifier_text, decimal_text}
use Rattle.numerals.proofs.Identifiers.{length_identifier, identifier_read, identifier_written}
use Rattle.numerals.proofs.Decimals.{length_decimal, decimal_read, decimal_written}
use Rattle.parts.specs.Joined.{join}
use Rattle.fields.specs.Front.{number_before}
use Rattle.fields.proofs.Tabless.{identifier_free, decimal_free}
use Rattle.fields.proofs.Written.{Field, found_field, not_nothing, after_field}
use Rattle.line.specs.declared.Line.{Line}
use Rattle.line.specs.declared.Line.TheVariants.{Message, Signal, Route}
use Rattle.line.specs.Written.{fields_of, line_text, Writable}
use Rattle.line.specs.LineAt.{read_line, first_line}
use Rattle.line.specs.First.{ill_formed_spec}
use Rattle.line.proofs.Starts.{starts_first}
use Rattle.line.proofs.ByKind.{RouteAt, message_or, signal_or, route_or}

-- what a slice from the byte after k on has
abbrev left : ℕ → List ℕ → List ℕ
left k l = take (length l - (k + 1)) (drop (k + 1) l)

-- what follows from a number that is found: its text, its size, what is after it
pub record Read (text_of : ℕ → List ℕ) (limit stop : ℕ) (text : List ℕ) (n k : ℕ) : Type 0 where
  pub small : n < limit
  pub size : length (text_of n) ≡ k
  pub same : text ≡ text_of n ++ stop ∷ left k text

module _ (form : List ℕ → Option ℕ) (text_of : ℕ → List ℕ) (limit : ℕ) (written : (l : List ℕ) (n : ℕ) → form l ≡ Some n → (n < limit) × (l ≡ text_of n)) where
  read : (stop : ℕ) (text : List ℕ) (n k : ℕ) → Field form stop text n k → Read text_of limit stop text n k
  read stop text n k w =
      let d : (n < limit) × (take k text ≡ text_of n) = written (take k text) n w.number in
      record {
        small = d.0;
        size = ap length (sym d.1) ∙ w.size;
        same = w.parts ∙ ap (λ (l : List ℕ). l ++ stop ∷ drop (k + 1) text) d.1 ∙ ap (λ (l : List ℕ). text_of n ++ stop ∷ l) (sym (take_rest text (k + 1)));
      }

decimal_found : (stop : ℕ) (text : List ℕ) (n k : ℕ) → Some (n, k) ≡ number_before decimal stop text → Read decimal_text 100000 stop text n k
decimal_found stop text n k e =
    read decimal decimal_text 100000 (λ l m w. ((decimal_written l m w).small, (decimal_written l m w).text)) stop text n k
    (found_field decimal stop text n k e)

identifier_found : (stop : ℕ) (text : List ℕ) (n k : ℕ) → Some (n, k) ≡ number_before identifier stop text → Read identifier_text 4294967296 stop text n k
identifier_found stop text n k e =
    read identifier identifier_text 4294967296 (λ l m w. ((identifier_written l m w).small, (identifier_written l m w).text)) stop text n k
    (found_field identifier stop text n k e)

-- a text that is refused, for nothing that was looked for is there
refuse : {A : Type 0} (text : List ℕ) → (ill_formed_spec text ≡ first_line text) ⊎ A → (A → ill_formed_spec text ≡ first_line text) → ill_formed_spec text ≡ first_line text
refuse text (inl e) f = e
refuse text (inr a) f = f a

module _ {A : Type 0} (stop : ℕ) (low : stop < 48) (n : ℕ) (rest : List ℕ) {text : List ℕ} where
  no_identifier : n < 4294967296 → text ≡ identifier_text n ++ stop ∷ rest → None ≡ number_before identifier stop text → A
  no_identifier h e q = not_nothing identifier stop (identifier_text n) rest n (identifier_free stop n low) (identifier_read n h) e q

  no_decimal : n < 100000 → text ≡ decimal_text n ++ stop ∷ rest → None ≡ number_before decimal stop text → A
  no_decimal h e q = not_nothing decimal stop (decimal_text n) rest n (decimal_free stop n low) (decimal_read n h) e q

-- what is left after a field that was found
module _ (stop : ℕ) (low : stop < 48) (n : ℕ) (rest : List ℕ) {text : List ℕ} {m k : ℕ} where
  past_identifier : n < 4294967296 → text ≡ identifier_text n ++ stop ∷ rest → Some (m, k) ≡ number_before identifier stop text → left k text ≡ rest
  past_identifier h e q = take_rest text (k + 1) ∙ after_field identifier stop (identifier_text n) rest n (identifier_free stop n low) (identifier_read n h) m k e q

  past_decimal : n < 100000 → text ≡ decimal_text n ++ stop ∷ rest → Some (m, k) ≡ number_before decimal stop text → left k text ≡ rest
  past_decimal h e q = take_rest text (k + 1) ∙ after_field decimal stop (decimal_text n) rest n (decimal_free stop n low) (decimal_read n h) m k e q

low_tab : 9 < 48
low_tab = omega arith

low_newline : 10 < 48
low_newline = omega arith

module _ (fields : List ℕ) where
  -- the numbers of a line, and the text that starts with it
  first : (text : List ℕ) (l : Line) (rest : List ℕ) {n : ℕ} → Writable l → text ≡ line_text l ++ 10 ∷ rest → length (line_text l) + 1 ≡ n → read_line l n ≡ first_line text
  first text l rest w e q = ap (read_line l) (sym q) ∙ sym (starts_first text l rest (record { writable = w; same = e }))

  pub message_ill : None ≡ number_before identifier 10 fields → ill_formed_spec (77 ∷ 9 ∷ fields) ≡ first_line (77 ∷ 9 ∷ fields)
  message_ill e = refuse (77 ∷ 9 ∷ fields) (message_or fields) (λ m. no_identifier 10 low_newline m.id m.rest m.small m.same e)

  pub message_well : {n k : ℕ} → Some (n, k) ≡ number_before identifier 10 fields → read_line (Message n) 11 ≡ first_line (77 ∷ 9 ∷ fields)
  unfolding line_text fields_of join
  message_well {n} {k} e =
      let r : Read identifier_text 4294967296 10 fields n k = identifier_found 10 fields n k e in
      first (77 ∷ 9 ∷ fields) (Message n) (left k fields) r.small (ap (λ (l : List ℕ). 77 ∷ 9 ∷ l) r.same) (omega (arith, length_identifier n))

  pub signal_ill : None ≡ number_before decimal 9 fields → ill_formed_spec (83 ∷ 9 ∷ fields) ≡ first_line (83 ∷ 9 ∷ fields)
  signal_ill e = refuse (83 ∷ 9 ∷ fields) (signal_or fields) (λ s. no_decimal 9 low_tab s.number (decimal_text s.start ++ 10 ∷ s.rest) s.small.0 s.same e)

  module _ {n k : ℕ} (e : Some (n, k) ≡ number_before decimal 9 fields) where
    pub start_ill : None ≡ number_before decimal 10 (left k fields) → ill_formed_spec (83 ∷ 9 ∷ fields) ≡ first_line (83 ∷ 9 ∷ fields)
    start_ill e' =
        refuse (83 ∷ 9 ∷ fields) (signal_or fields)
        (λ s. no_decimal 10 low_newline s.start s.rest s.small.1
        (past_decimal 9 low_tab s.number (decimal_text s.start ++ 10 ∷ s.rest) s.small.0 s.same e) e')

    pub signal_well : {s m : ℕ} → Some (s, m) ≡ number_before decimal 10 (left k fields) → read_line (Signal n s) (k + m + 4) ≡ first_line (83 ∷ 9 ∷ fields)
    unfolding line_text fields_of join
    signal_well {s} {m} e' =
        let r : Read decimal_text 100000 9 fields n k = decimal_found 9 fields n k e in
        let r' : Read decimal_text 100000 10 (left k fields) s m = decimal_found 10 (left k fields) s m e' in
        first (83 ∷ 9 ∷ fields) (Signal n s) (left m (left k fields)) (r.small, r'.small)
        (ap (λ (l : List ℕ). 83 ∷ 9 ∷ l) (r.same ∙ ap (λ (l : List ℕ). decimal_text n ++ 9 ∷ l) r'.same) ∙ simp append_assoc)
        (simp length-append (omega (arith, r.size, r'.size)))

  pub from_bus_ill : None ≡ number_before decimal 9 fields → ill_formed_spec (82 ∷ 9 ∷ fields) ≡ first_line (82 ∷ 9 ∷ fields)
  from_bus_ill e = refuse (82 ∷ 9 ∷ fields) (route_or fields) (λ s. no_decimal 9 low_tab s.a _ s.small.0.0 s.same e)

  module _ {a k : ℕ} (e : Some (a, k) ≡ number_before decimal 9 fields) where
    at_id : (s : RouteAt fields) → left k fields ≡ identifier_text s.i ++ 9 ∷ (decimal_text s.b ++ 9 ∷ (identifier_text s.j ++ 10 ∷ s.rest))
    at_id s = past_decimal 9 low_tab s.a _ s.small.0.0 s.same e

    pub from_id_ill : None ≡ number_before identifier 9 (left k fields) → ill_formed_spec (82 ∷ 9 ∷ fields) ≡ first_line (82 ∷ 9 ∷ fields)
    from_id_ill e' = refuse (82 ∷ 9 ∷ fields) (route_or fields) (λ s. no_identifier 9 low_tab s.i _ s.small.0.1 (at_id s) e')

    module _ {i p : ℕ} (e' : Some (i, p) ≡ number_before identifier 9 (left k fields)) where
      at_bus : (s : RouteAt fields) → left p (left k fields) ≡ decimal_text s.b ++ 9 ∷ (identifier_text s.j ++ 10 ∷ s.rest)
      at_bus s = past_identifier 9 low_tab s.i _ s.small.0.1 (at_id s) e'

      pub to_bus_ill : None ≡ number_before decimal 9 (left p (left k fields)) → ill_formed_spec (82 ∷ 9 ∷ fields) ≡ first_line (82 ∷ 9 ∷ fields)
      to_bus_ill e'' = refuse (82 ∷ 9 ∷ fields) (route_or fields) (λ s. no_decimal 9 low_tab s.b _ s.small.1.0 (at_bus s) e'')

      module _ {b m : ℕ} (e'' : Some (b, m) ≡ number_before decimal 9 (left p (left k fields))) where
        at_last : (s : RouteAt fields) → left m (left p (left k fields)) ≡ identifier_text s.j ++ 10 ∷ s.rest
        at_last s = past_decimal 9 low_tab s.b _ s.small.1.0 (at_bus s) e''

        pub to_id_ill : None ≡ number_before identifier 10 (left m (left p (left k fields))) → ill_formed_spec (82 ∷ 9 ∷ fields) ≡ first_line (82 ∷ 9 ∷ fields)
        to_id_ill e''' = refuse (82 ∷ 9 ∷ fields) (route_or fields) (λ s. no_identifier 10 low_newline s.j _ s.small.1.1 (at_last s) e''')

        module _ {j q : ℕ} (e''' : Some (j, q) ≡ number_before identifier 10 (left m (left p (left k fields)))) where
          bus : Read decimal_text 100000 9 fields a k
          bus = decimal_found 9 fields a k e

          id : Read identifier_text 4294967296 9 (left k fields) i p
          id = identifier_found 9 (left k fields) i p e'

          to : Read decimal_text 100000 9 (left p (left k fields)) b m
          to = decimal_found 9 (left p (left k fields)) b m e''

          last : Read identifier_text 4294967296 10 (left m (left p (left k fields))) j q
          last = identifier_found 10 (left m (left p (left k fields))) j q e'''

          pub route_few : k + p + m + q + 6 ≤ 32
          route_few = omega (arith, bus.size, length_decimal a bus.small, id.size, length_identifier i, to.size, length_decimal b to.small, last.size, length_identifier j)

          pub route_well : read_line (Route a i b j) (k + p + m + q + 6) ≡ first_line (82 ∷ 9 ∷ fields)
          unfolding line_text fields_of join
          route_well =
              first (82 ∷ 9 ∷ fields) (Route a i b j) (left q (left m (left p (left k fields)))) ((bus.small, id.small), (to.small, last.small))
              (ap (λ (l : List ℕ). 82 ∷ 9 ∷ l)
              (bus.same ∙ ap (λ (l : List ℕ). decimal_text a ++ 9 ∷ l)
              (id.same ∙ ap (λ (l : List ℕ). identifier_text i ++ 9 ∷ l) (to.same ∙ ap (λ (l : List ℕ). decimal_text b ++ 9 ∷ l) last.same)))
              ∙ simp append_assoc)
              (simp length-append (omega (arith, bus.size, id.size, to.size, last.size)))
