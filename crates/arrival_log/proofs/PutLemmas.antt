-- Items with commas between them, put from the last to the first; texts whose bytes stand for themselves; short names.
use Rattle.std.proofs.Common.{◌≡◌, ◌∙◌, ℕ, ◌+◌, ◌-◌, ◌<◌, ◌≤◌, ◌==◌, List, [], ◌∷◌, ◌++◌, true, false, append_assoc, arith, ap, drop, get_or, length, map, nat_le, refl, slice_get, Some, sym}
use Rattle.std.specs.Prelude.{not, ◌&&◌}
use Rattle.std.specs.List.{flat_map, list_all}
use Rattle.std.proofs.lemmas.Bool.{and_parts, leb-true}
use Rattle.std.proofs.lemmas.Bool.Decides.{nat_tests}
use Rattle.std.proofs.lemmas.List.{drop_all, drop_more}
use Rattle.std.proofs.lemmas.Option.{get_or_from_slice_get}
use Rattle.join_base.specs.Quoted.{byte_form, is_control, quoted}
use Rattle.join_base.specs.Text.{begins_word, goes_on_word, is_name, is_reserved}
use Rattle.arrival_log.specs.Commas.{is_plain_byte}
use Rattle.arrival_log.specs.LogText.{comma_joined}

joined_last : {X : Type 0} (f : X → List ℕ) (xs : List X) (i : ℕ) (d : X) → i + 1 ≡ length xs → comma_joined (map f (drop i xs)) ≡ f (get_or xs i d)
joined_last {X} f xs i d last =
    ap (λ (ys : List X). comma_joined (map f ys)) (drop_more xs i d (omega (arith, last)))
    ∙ ap (λ (ys : List X). comma_joined (f (get_or xs i d) ∷ map f ys)) (drop_all (i + 1) xs (omega (arith, last)))

joined_more : {X : Type 0} (f : X → List ℕ) (xs : List X) (i : ℕ) (d : X) → i + 1 < length xs → comma_joined (map f (drop i xs)) ≡ f (get_or xs i d) ++ 44 ∷ comma_joined (map f (drop (i + 1) xs))
joined_more {X} f xs i d more =
    let next : drop (i + 1) xs ≡ get_or xs (i + 1) d ∷ drop (i + 1 + 1) xs = drop_more xs (i + 1) d more in
    ap (λ (ys : List X). comma_joined (map f ys)) (drop_more xs i d (omega (arith, more)))
    ∙ ap (λ (ys : List X). comma_joined (f (get_or xs i d) ∷ map f ys)) next
    ∙ ap (λ (ys : List X). f (get_or xs i d) ++ 44 ∷ comma_joined (map f ys)) (sym next)

-- the last item was put
pub last_put : {X : Type 0} (f : X → List ℕ) (xs : List X) (i : ℕ) (d x : X) (now rest : List ℕ) → i + 1 ≡ length xs → x ≡ get_or xs i d → now ≡ f x ++ rest → now ≡ comma_joined (map f (drop i xs)) ++ rest
last_put {X} f xs i d x now rest last item now_is =
    now_is
    ∙ ap (λ (y : X). f y ++ rest) item
    ∙ ap (λ (text : List ℕ). text ++ rest) (sym (joined_last f xs i d last))

-- a comma was put before the items from place i + 1 on, and the item at i before it
pub item_put : {X : Type 0} (f : X → List ℕ) (xs : List X) (i : ℕ) (d x : X) (so_far with_comma now rest : List ℕ) → i + 1 < length xs → x ≡ get_or xs i d → so_far ≡ comma_joined (map f (drop (i + 1) xs)) ++ rest → with_comma ≡ 44 ∷ so_far → now ≡ f x ++ with_comma → now ≡ comma_joined (map f (drop i xs)) ++ rest
item_put {X} f xs i d x so_far with_comma now rest more item so_far_is comma_is now_is =
    let others : List ℕ = comma_joined (map f (drop (i + 1) xs)) in
    now_is
    ∙ ap (λ (y : X). f y ++ with_comma) item
    ∙ ap (λ (text : List ℕ). f (get_or xs i d) ++ text) (comma_is ∙ ap (λ (text : List ℕ). 44 ∷ text) so_far_is)
    ∙ sym (append_assoc (f (get_or xs i d)) (44 ∷ others) rest)
    ∙ ap (λ (text : List ℕ). text ++ rest) (sym (joined_more f xs i d more))

-- the value at the place before was put in front of a comma
pub value_put : {X : Type 0} (f : X → List ℕ) (xs : List X) (place : ℕ) (x : X) (so_far with_comma now rest : List ℕ) → 0 < place → place < length xs → slice_get xs (place - 1) ≡ Some x → so_far ≡ comma_joined (map f (drop place xs)) ++ rest → with_comma ≡ 44 ∷ so_far → now ≡ f x ++ with_comma → now ≡ comma_joined (map f (drop (place - 1) xs)) ++ rest
value_put f xs place x so_far with_comma now rest some within item so_far_is comma_is now_is =
    let same : place - 1 + 1 ≡ place = omega (arith, some) in
    let found = sym (get_or_from_slice_get xs (place - 1) x x item) in
    let behind = so_far_is ∙ ap (λ (n : ℕ). comma_joined (map f (drop n xs)) ++ rest) (sym same) in
    item_put f xs (place - 1) x x so_far with_comma now rest (omega (arith, same, within)) found behind comma_is now_is

plain_form : (b : ℕ) → is_plain_byte b ≡ true → byte_form b ≡ b ∷ []
plain_form b plain =
    let quote : (b == 34) ≡ false = grind (arith, nat_tests) in
    let stroke : (b == 92) ≡ false = grind (arith, nat_tests) in
    let feed : (b == 10) ≡ false = grind (arith, nat_tests) in
    let back : (b == 13) ≡ false = grind (arith, nat_tests) in
    let tab : (b == 9) ≡ false = grind (arith, nat_tests) in
    let control : is_control b ≡ false = grind (arith, nat_tests) in
    rw (quote, stroke, feed, back, tab, control) refl

plain_forms : (text : List ℕ) → list_all is_plain_byte text ≡ true → flat_map byte_form text ≡ text
plain_forms [] all = refl
plain_forms (b ∷ bs) all =
    let parts = and_parts (is_plain_byte b) (list_all is_plain_byte bs) all in
    ap (λ (form : List ℕ). form ++ flat_map byte_form bs) (plain_form b parts.0) ∙ ap (λ (forms : List ℕ). b ∷ forms) (plain_forms bs parts.1)

-- a text whose bytes stand for themselves, between quotes
pub plain_quoted : (text rest : List ℕ) → list_all is_plain_byte text ≡ true → 34 ∷ (text ++ 34 ∷ rest) ≡ quoted text ++ rest
plain_quoted text rest all =
    ap (λ (forms : List ℕ). 34 ∷ (forms ++ 34 ∷ rest)) (sym (plain_forms text all))
    ∙ ap (λ (behind : List ℕ). 34 ∷ behind) (sym (append_assoc (flat_map byte_form text) (34 ∷ []) rest))

pub name_short : (name : List ℕ) → is_name name ≡ true → length name ≤ 64
name_short name is =
    let word = (and_parts (nat_le (length name) 64 && begins_word (get_or name 0 0) && list_all goes_on_word name) (not (is_reserved name)) is).0 in
    let short = (and_parts (nat_le (length name) 64 && begins_word (get_or name 0 0)) (list_all goes_on_word name) word).0 in
    leb-true (length name) 64 (and_parts (nat_le (length name) 64) (begins_word (get_or name 0 0)) short).0

-- the lines of at most one item, put at the end of a room
pub none_put : {X : Type 0} (f : X → List ℕ) (xs : List X) (put : List ℕ) → length xs < 1 → put ≡ [] → put ≡ flat_map f xs
none_put f [] put few is = is
none_put f (x ∷ xs) put few is = absurd (omega (arith, few))

pub one_put : {X : Type 0} (f : X → List ℕ) (xs : List X) (x : X) (rest : List ℕ) → 1 ≤ length xs → length xs < 2 → x ≡ get_or xs 0 x → rest ≡ [] → f x ++ rest ≡ flat_map f xs
one_put f [] x rest some few here nothing = absurd (omega (arith, some))
one_put f (y ∷ []) x rest some few here nothing = λ i. f (here i) ++ nothing i
one_put f (y ∷ z ∷ xs) x rest some few here nothing = absurd (omega (arith, few))
