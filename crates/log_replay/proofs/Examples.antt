-- Worked examples: logs that are accepted, and logs whose first line in fault is computed.
use Rattle.std.proofs.Common.{◌≡◌, refl, ap, false, List, [], ◌∷◌, Some, None, pos, ℕ, zero, suc, ◌<◌, Option, slice_get, take, length, ◌≤◌, ◌+◌, arith}
use Rattle.std.specs.Prelude.{codes, slice_index, IfSome}
use Rattle.std.specs.List.{AllByRecursion}
use Rattle.join_base.specs.declared.message.Value.{Value}
use Rattle.std.specs.Fmt.{digits}
use Rattle.join_base.specs.declared.message.Value.TheVariants.{Int}
use Rattle.join_base.specs.declared.message.Sort.TheVariants as sort
use Rattle.join_base.specs.declared.message.Message.{Message}
use Rattle.join_base.specs.declared.message.Source.{Source}
use Rattle.join_base.specs.declared.message.Source.TheVariants.{Feed, Actor}
use Rattle.guard_eval.specs.declared.term.Place.{Place}
use Rattle.guard_eval.specs.declared.term.Operand.TheVariants as operand
use Rattle.guard_eval.specs.declared.term.WordsLeaf.TheVariants as words
use Rattle.guard_eval.specs.declared.term.Signed.{Signed}
use Rattle.guard_eval.specs.declared.term.Leaf.TheVariants.{Field, Number}
use Rattle.script_types.specs.declared.plan.Plan.{Plan}
use Rattle.script_types.specs.declared.plan.Kind.{Kind}
use Rattle.script_types.specs.declared.plan.Rule.{Rule}
use Rattle.script_types.specs.declared.plan.Statement.{Statement}
use Rattle.script_types.specs.declared.plan.Statement.TheVariants.{Print, Post}
use Rattle.script_types.specs.declared.plan.Item.TheVariants as item
use Rattle.fair_semantics.specs.declared.run.Ending.TheVariants.{Running, Spent}
use Rattle.fair_semantics.specs.declared.run.Effect.{Effect}
use Rattle.fair_semantics.specs.declared.run.Effect.TheVariants as effect
use Rattle.fair_semantics.specs.declared.run.Entry.{Entry}
use Rattle.fair_semantics.specs.declared.run.Firing.{Firing}
use Rattle.fair_semantics.specs.declared.run.ActorRun.{ActorRun}
use Rattle.fair_semantics.specs.declared.run.Run.{Run}
use Rattle.fair_semantics.specs.Linked.{messages_of, taken_from}
use Rattle.log_replay.specs.Expected.{expected_posts, expected_run, read_entries}
use Rattle.log_replay.specs.Fault.{Line, IsFirstInFault, IsPosted, IsRight, lines_of, texts_of}
use Rattle.log_replay.proofs.AcceptedLemmas.{Kept}

abbrev message : ℕ → ℕ → Message
message kind x = record { kind = kind; fields = Int (pos x) ∷ [] }

abbrev one_int : List ℕ → Kind
one_int name = record { name = name; fields = (codes "x", sort.Int) ∷ [] }

abbrev place : ℕ → Place
place pattern = record { pattern = pattern; field = 0 }

abbrev rule : List ℕ → List Statement → Rule
rule kinds body = record { definition = record { patterns = kinds; conjuncts = []; window = None }; variables = []; body = body }

abbrev fired : List ℕ → Effect → Option Firing
fired taken made = Some record { rule = 1; taken = taken; effects = made ∷ [] }

abbrev entry : ℕ → Source → Message → ℕ → Option Firing → Entry
entry number source m stamp firing = record { number = number; source = source; message = m; stamp = stamp; firing = firing }

-- ---- one actor

abbrev hits : Plan
hits = record {
  kinds = one_int (codes "a") ∷ one_int (codes "b") ∷ [];
  actors = record { name = codes "m"; rules = rule (0 ∷ 1 ∷ []) (Print (item.Words (words.Fixed (codes "hit ")) ∷ item.Plain (place 0) ∷ item.Plain (place 1) ∷ []) ∷ []) ∷ [] } ∷ [];
}

-- the log of a(1) and b(2), with what is changed in it
abbrev hit_log : List ℕ → List ℕ → List (Source × ℕ) → ℕ → Run
hit_log taken said late partials = record {
  version = 1;
  limits = record { arrivals = 50000; partials = 65536 };
  feeds = 1;
  actors = record {
    entries = entry 1 (Feed 1) (message 0 1) 0 None ∷ entry 2 (Feed 1) (message 1 2) 0 (fired taken (effect.Print said)) ∷ [];
    late = late;
    ending = Running;
    left = [];
    partials = partials;
  } ∷ [];
}

-- the lines before a place are right, and the line there is not
first_at : (plan : Plan) (run : Run) (place : ℕ) → take place (texts_of (lines_of plan run)) ≡ take place (texts_of (lines_of plan (expected_run plan run))) → AllByRecursion (Kept plan run) (take place (lines_of plan run)) → (IsRight plan run place → ⊥) → IsFirstInFault plan run (place + 1)
first_at plan run place same kept wrong = record { place = place; counted = refl; before = λ earlier l. record { keeps = kept_at (lines_of plan run) place earlier l kept; same = text_at (texts_of (lines_of plan run)) (texts_of (lines_of plan (expected_run plan run))) place earlier l same }; wrong = wrong }
  where
    kept_at : (lines : List Line) (n k : ℕ) → k < n → AllByRecursion (Kept plan run) (take n lines) → IfSome (slice_get lines k) (λ (l : Line). Kept plan run l)
    kept_at lines zero k l each = absurd (omega arith)
    kept_at [] (suc n) k l each = tt
    kept_at (x ∷ lines) (suc n) zero l each = each.0
    kept_at (x ∷ lines) (suc n) (suc k) l each = kept_at lines n k (omega arith) each.1

    text_at : (xs ys : List (List ℕ)) (n k : ℕ) → k < n → take n xs ≡ take n ys → slice_get xs k ≡ slice_get ys k
    text_at xs ys zero k l e = absurd (omega arith)
    text_at [] [] (suc n) k l e = refl
    text_at [] (y ∷ ys) (suc n) k l e = absurd cc
    text_at (x ∷ xs) [] (suc n) k l e = absurd cc
    text_at (x ∷ xs) (y ∷ ys) (suc n) zero l e = let first : x ≡ y = cc in ap (λ (t : List ℕ). Some t) first
    text_at (x ∷ xs) (y ∷ ys) (suc n) (suc k) l e = let later : take n xs ≡ take n ys = cc in text_at xs ys n k (omega arith) later

-- an arrival from a feed is no post
not_actor : (k from : ℕ) → Feed k ≡ Actor from → ⊥
not_actor k from e = absurd cc

-- the byte at a place of a line
abbrev byte_at : ℕ → Option (List ℕ) → ℕ
byte_at k None = 0
byte_at k (Some text) = slice_index text k

abbrev hit : Run
hit = hit_log (1 ∷ 2 ∷ []) (codes "hit 12") [] 1

hit_is_expected : expected_run hits hit ≡ hit
unfolding digits
hit_is_expected = refl

-- whatever is changed, the log without the change is expected
numbers_changed : expected_run hits (hit_log (2 ∷ 1 ∷ []) (codes "hit 12") [] 1) ≡ hit
unfolding digits
numbers_changed = refl

numbers_in_line_5 : IsFirstInFault hits (hit_log (2 ∷ 1 ∷ []) (codes "hit 12") [] 1) 5
unfolding digits
numbers_in_line_5 = first_at hits (hit_log (2 ∷ 1 ∷ []) (codes "hit 12") [] 1) 4 refl (tt, (tt, ((λ from e. absurd (not_actor 1 from e)), ((λ from e. absurd (not_actor 1 from e)), tt)))) (λ r. let byte : 50 ≡ 49 = ap (byte_at 17) r.same in absurd (omega arith))

print_changed : expected_run hits (hit_log (1 ∷ 2 ∷ []) (codes "hit 13") [] 1) ≡ hit
unfolding digits
print_changed = refl

partials_changed : expected_run hits (hit_log (1 ∷ 2 ∷ []) (codes "hit 12") [] 2) ≡ hit
unfolding digits
partials_changed = refl

late_added : expected_run hits (hit_log (1 ∷ 2 ∷ []) (codes "hit 12") ((Feed 1, 3) ∷ []) 1) ≡ hit
unfolding digits
late_added = refl

late_in_line_7 : IsFirstInFault hits (hit_log (1 ∷ 2 ∷ []) (codes "hit 12") ((Feed 1, 3) ∷ []) 1) 7
unfolding digits
late_in_line_7 = first_at hits (hit_log (1 ∷ 2 ∷ []) (codes "hit 12") ((Feed 1, 3) ∷ []) 1) 6 refl (tt, (tt, ((λ from e. absurd (not_actor 1 from e)), ((λ from e. absurd (not_actor 1 from e)), (tt, (tt, tt)))))) (λ r. let byte : 108 ≡ 101 = ap (byte_at 0) r.same in absurd (omega arith))

-- ---- two actors that post to each other

abbrev plus : ℕ → List Signed
plus n = record { minus = false; leaf = Field (place 0) } ∷ record { minus = false; leaf = Number (pos n) } ∷ []

abbrev answers : ℕ → ℕ → List Rule
answers target n = rule (0 ∷ []) (Post target 0 (operand.Sum (plus n) ∷ []) ∷ []) ∷ []

abbrev two_actors : ℕ → Plan
two_actors n = record {
  kinds = one_int (codes "ping") ∷ [];
  actors = record { name = codes "p"; rules = answers 1 n } ∷ record { name = codes "q"; rules = answers 0 n } ∷ [];
}

-- an arrival that posts on
abbrev passed : ℕ → Source → ℕ → ℕ → ℕ → ℕ → Entry
passed number source x stamp target y = entry number source (message 0 x) stamp (fired (number ∷ []) (effect.Post target (message 0 y)))

abbrev of_two : ℕ → ActorRun → ActorRun → Run
of_two version p q = record { version = version; limits = record { arrivals = 3; partials = 65536 }; feeds = 1; actors = p ∷ q ∷ [] }

abbrev running : List Entry → ActorRun
running entries = record { entries = entries; late = []; ending = Running; left = []; partials = 1 }

abbrev spent : List Entry → List (Source × ℕ) → ActorRun
spent entries late = record { entries = entries; late = late; ending = Spent; left = []; partials = 1 }

-- with a stamp or none, by the version
abbrev p_entries : Entry → ℕ → ℕ → List Entry
p_entries first second third = first ∷ passed 2 (Actor 1) 2 second 1 3 ∷ passed 3 (Actor 1) 4 third 1 5 ∷ []

abbrev q_entries : ℕ → ℕ → ℕ → List Entry
q_entries first second third = passed 1 (Actor 0) 1 first 0 2 ∷ passed 2 (Actor 0) 3 second 0 4 ∷ passed 3 (Actor 0) 5 third 0 6 ∷ []

abbrev ping_pong : Plan
ping_pong = two_actors 1

abbrev q_last : List (Source × ℕ)
q_last = (Actor 1, 1) ∷ []

abbrev ping_pong_1 : Run
ping_pong_1 = of_two 1 (spent (p_entries (passed 1 (Feed 1) 0 0 1 1) 0 0) q_last) (running (q_entries 0 0 0))

ping_pong_1_is_expected : expected_run ping_pong ping_pong_1 ≡ ping_pong_1
ping_pong_1_is_expected = refl

-- without its late line
late_left_out : expected_run ping_pong (of_two 1 (spent (p_entries (passed 1 (Feed 1) 0 0 1 1) 0 0) []) (running (q_entries 0 0 0))) ≡ ping_pong_1
late_left_out = refl

-- a first arrival that the other actor never posted
abbrev invented : Run
invented = of_two 1 (spent (p_entries (passed 1 (Actor 1) 7 0 1 1) 0 0) q_last) (running (q_entries 0 0 0))

first_post : slice_get (messages_of (expected_posts ping_pong invented 1 0)) 0 ≡ Some (message 0 2)
first_post = refl

abbrev number_in : List Value → ℕ
number_in (Int (pos n) ∷ values) = n
number_in _ = 0

abbrev number_of : Option Message → ℕ
number_of None = 0
number_of (Some m) = number_in m.fields

differ : Some (message 0 2) ≡ Some (message 0 7) → ⊥
differ e = let same : number_of (Some (message 0 2)) ≡ number_of (Some (message 0 7)) = ap number_of e in absurd (omega (arith, same))

invented_at_line_3 : IsFirstInFault ping_pong invented 3
invented_at_line_3 = record { place = 2; counted = refl; before = before; wrong = λ r. differ (r.keeps 1 refl) }
  where
    before : (earlier : ℕ) → earlier < 2 → IsRight ping_pong invented earlier
    before zero l = record { keeps = tt; same = refl }
    before (suc zero) l = record { keeps = tt; same = refl }
    before (suc (suc n)) l = absurd (omega arith)

abbrev ping_pong_2 : ℕ → Run
ping_pong_2 second = of_two 2 (spent (p_entries (passed 1 (Feed 1) 0 1 1 1) second 5) q_last) (running (q_entries 2 4 6))

ping_pong_2_is_expected : expected_run ping_pong (ping_pong_2 3) ≡ ping_pong_2 3
ping_pong_2_is_expected = refl

-- ---- a circle: each actor's first arrival is the other's post

abbrev circle : ℕ → ℕ → ℕ → Run
circle version p q = of_two version (running (passed 1 (Actor 1) 7 p 1 7 ∷ [])) (running (passed 1 (Actor 0) 7 q 0 7 ∷ []))

abbrev same : Plan
same = two_actors 0

circle_1_is_expected : expected_run same (circle 1 0 0) ≡ circle 1 0 0
circle_1_is_expected = refl

-- no stamps are those of a circle
circle_at_1 : expected_run same (circle 2 1 1) ≡ circle 2 2 2
circle_at_1 = refl

circle_at_1_in_line_3 : IsFirstInFault same (circle 2 1 1) 3
unfolding digits
circle_at_1_in_line_3 = record { place = 2; counted = refl; before = before; wrong = λ r. let byte : 49 ≡ 50 = ap (byte_at 5) r.same in absurd (omega arith) }
  where
    before : (earlier : ℕ) → earlier < 2 → IsRight same (circle 2 1 1) earlier
    before zero l = record { keeps = tt; same = refl }
    before (suc zero) l = record { keeps = tt; same = refl }
    before (suc (suc n)) l = absurd (omega arith)

circle_at_2_and_1 : expected_run same (circle 2 2 1) ≡ circle 2 2 3
circle_at_2_and_1 = refl

circle_at_2_and_1_in_line_8 : IsFirstInFault same (circle 2 2 1) 8
unfolding digits
circle_at_2_and_1_in_line_8 = first_at same (circle 2 2 1) 7 refl (tt, (tt, (posted, (tt, (tt, ((λ running from l. lacks from l), (tt, tt))))))) (λ r. let byte : 49 ≡ 51 = ap (byte_at 5) r.same in absurd (omega arith))
  where
    posted : IsPosted same (circle 2 2 1) 0 [] (passed 1 (Actor 1) 7 2 1 7)
    posted zero e = absurd cc
    posted (suc zero) e = refl
    posted (suc (suc n)) e = absurd cc

    lacks : (from : ℕ) → from < 2 → length (expected_posts same (circle 2 2 1) from 0) ≤ length (taken_from (Actor from) (read_entries (circle 2 2 1) 0))
    lacks zero l = omega arith
    lacks (suc zero) l = omega arith
    lacks (suc (suc n)) l = absurd (omega arith)

-- where no stamp is left it is 1
circle_at_greatest : expected_run same (circle 2 4294967295 4294967294) ≡ circle 2 4294967295 1
circle_at_greatest = refl
