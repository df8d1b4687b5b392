-- A request has at most 16 feeds.
use Rattle.std.proofs.Common.{◌≡◌, ◌∙◌, ℕ, ◌≤◌, List, [], ◌∷◌, length, Bool, true, false, Option, None, Some, refl, sym, subst, arith}
use Rattle.std.specs.Prelude.{Result, Ok, Err, IfOk, IfSome, codes, ◌&&◌, nat_le, if◌then◌else◌}
use Rattle.std.specs.Option.{option_map}
use Rattle.std.specs.Str.{bytes_eq}
use Rattle.std.proofs.lemmas.Bool.{and_parts}
use Rattle.std.proofs.lemmas.Bool.Decides.{nat_tests}
use Rattle.command_words.specs.Number.{is_within, number_in}
use Rattle.look_command.specs.declared.request.Request.{Request as HeldRequest}
use Rattle.look_command.specs.Request.{HasFewFeeds, Request, Audit, Reactions, Why, audit_of, reactions_of, request_by, request_in, request_of, why_of}

none_is_some : (r : Request) → None ≡ Some r → ⊥
none_is_some r e = absurd cc

at_most : (m : ℕ) → nat_le m 16 ≡ true → m ≤ 16
at_most m l = grind (arith, nat_tests)

few : (n : ℕ) → (nat_le 1 n && nat_le n 16) ≡ true → n ≤ 16
few n is = let h = and_parts (nat_le 1 n) (nat_le n 16) is in at_most n h.1

audit_few : (words : List (List ℕ)) (r : Request) → audit_of words ≡ Some r → HasFewFeeds r
audit_few [] r e = absurd (none_is_some r e)
audit_few (script ∷ []) r e = absurd (none_is_some r e)
audit_few (script ∷ log ∷ feeds) r e = by (is_within 1 16 (length feeds)) refl e
  where
    by : (b : Bool) → is_within 1 16 (length feeds) ≡ b → (if b then Some (Audit script log feeds) else None) ≡ Some r → HasFewFeeds r
    by true is p = let same : Audit script log feeds ≡ r = cc in subst HasFewFeeds same (few (length feeds) is)
    by false is p = absurd (none_is_some r p)

reactions_few : (words : List (List ℕ)) (r : Request) → reactions_of words ≡ Some r → HasFewFeeds r
reactions_few [] r e = absurd (none_is_some r e)
reactions_few (script ∷ []) r e = absurd (none_is_some r e)
reactions_few (script ∷ log ∷ []) r e = let same : Reactions script log None ≡ r = cc in subst HasFewFeeds same tt
reactions_few (script ∷ log ∷ actor ∷ []) r e = let same : Reactions script log (Some actor) ≡ r = cc in subst HasFewFeeds same tt
reactions_few (script ∷ log ∷ actor ∷ more ∷ words) r e = absurd (none_is_some r e)

why_few : (words : List (List ℕ)) (r : Request) → why_of words ≡ Some r → HasFewFeeds r
why_few [] r e = absurd (none_is_some r e)
why_few (script ∷ []) r e = absurd (none_is_some r e)
why_few (script ∷ log ∷ []) r e = absurd (none_is_some r e)
why_few (script ∷ log ∷ actor ∷ []) r e = let same : Why script log actor None ≡ r = cc in subst HasFewFeeds same tt
why_few (script ∷ log ∷ actor ∷ number ∷ []) r e = by (number_in 1 4294967295 number) e
  where
    by : (o : Option ℕ) → option_map (λ n. Why script log actor (Some n)) o ≡ Some r → HasFewFeeds r
    by None p = absurd (none_is_some r p)
    by (Some n) p = let same : Why script log actor (Some n) ≡ r = cc in subst HasFewFeeds same tt
why_few (script ∷ log ∷ actor ∷ number ∷ more ∷ words) r e = absurd (none_is_some r e)

words_few : (words : List (List ℕ)) (r : Request) → request_of words ≡ Some r → HasFewFeeds r
words_few [] r e = absurd (none_is_some r e)
words_few (name ∷ words) r e = by (bytes_eq name (codes "audit")) e
  where
    explaining : (d : Bool) → (if d then why_of words else None) ≡ Some r → HasFewFeeds r
    explaining true q = why_few words r q
    explaining false q = absurd (none_is_some r q)

    reacting : (c : Bool) → (if c then reactions_of words else (if bytes_eq name (codes "why") then why_of words else None)) ≡ Some r → HasFewFeeds r
    reacting true q = reactions_few words r q
    reacting false q = explaining (bytes_eq name (codes "why")) q

    by : (b : Bool) → (if b then audit_of words else (if bytes_eq name (codes "reactions") then reactions_of words else (if bytes_eq name (codes "why") then why_of words else None))) ≡ Some r → HasFewFeeds r
    by true p = audit_few words r p
    by false p = reacting (bytes_eq name (codes "reactions")) p

few_feeds : (words : List (List ℕ)) (request : Option HeldRequest) → option_map request_in request ≡ request_of words → IfSome request (λ r. HasFewFeeds (request_in r))
few_feeds words None is = tt
few_feeds words (Some r) is = words_few words (request_in r) (sym is)

pub requests_few : {E : Type 0} (words : List (List ℕ)) (result : Result (Option HeldRequest) E) → IfOk result (λ request. option_map request_in request ≡ request_of words) → IfOk result (λ request. IfSome request (λ r. HasFewFeeds (request_in r)))
requests_few words (Ok request) is = few_feeds words request is
requests_few words (Err why) is = tt
