-- Bytes spell one tree or have one fault.
use Rattle.std.proofs.Common.{Bool, true, false, ◌≡◌, ℕ, ◌<◌, ◌⊎◌, inl, inr, ⊎_elim, List, [], ◌∷◌, length, refl, sym, ap, subst, ◌∙◌, arith}
use Rattle.std.specs.Prelude.{if◌then◌else◌}
use Rattle.std.specs.Str.{IsUtf8, IsValidUpTo}
use Rattle.script_tokens.specs.declared.token.Token.{Token}
use Rattle.script_tokens.specs.Tokens.{AreTokens}
use Rattle.script_tokens.specs.Tokens as tokens_of
use Rattle.script_grammar.specs.declared.outline.Outline.{Outline}
use Rattle.script_grammar.specs.declared.tree.Tree.{Tree}
use Rattle.script_grammar.specs.Grammar.{IsScript}
use Rattle.script_grammar.specs.Filled.{ScriptsAreFilled}
use Rattle.script_grammar.specs.Refusal.{Refuses}
use Rattle.script_grammar.specs.Refusal as refusal
use Rattle.script_grammar.specs.declared.fault.ScriptCause.{ScriptCause}
use Rattle.script_grammar.specs.declared.fault.ScriptCause.TheVariants.{NotText, BadToken, BadSyntax, TooMany, TwiceDeclared, UnknownMessage, UnknownActor, UnknownName, WrongCount, WrongType, StopNotLast, BadWindow, BadReply}
use Rattle.script_grammar.specs.declared.fault.ScriptFault.TheVariants.{Bad}
use Rattle.script_grammar.proofs.ScriptLemmas.{script_complete}
use Rattle.script_reader.specs.Spells.{Spells, IsNoText, IsRefused, IsFault, FaultIs, SpellsOutline, ReadsTree, place_of, cause_of, OneTree, NoBoth, OneFault}

-- a fault of reading is no text, or a refusal
fault_sort : (bytes : List ℕ) (place : ℕ) (cause : ScriptCause) → IsFault bytes place cause → ((cause ≡ NotText) × IsNoText bytes place) ⊎ IsRefused bytes place cause
fault_sort bytes place NotText h = inl (refl, h)
fault_sort bytes place BadToken h = inr h
fault_sort bytes place BadSyntax h = inr h
fault_sort bytes place TooMany h = absurd h
fault_sort bytes place TwiceDeclared h = absurd h
fault_sort bytes place UnknownMessage h = absurd h
fault_sort bytes place UnknownActor h = absurd h
fault_sort bytes place UnknownName h = absurd h
fault_sort bytes place WrongCount h = absurd h
fault_sort bytes place WrongType h = absurd h
fault_sort bytes place StopNotLast h = absurd h
fault_sort bytes place BadWindow h = absurd h
fault_sort bytes place BadReply h = absurd h

module _ (one_list : tokens_of.OneList) (one_script : refusal.OneTree) (one_refusal : refusal.OneRefusal) where
  pub one_tree : OneTree
  one_tree bytes tree other h k =
      one_script k.tokens tree other (subst (λ (ts : List Token). IsScript tree ts) (one_list bytes h.tokens k.tokens h.cut k.cut) h.script) k.script

  refused_not : (bytes : List ℕ) (tree : Tree) (place : ℕ) (cause : ScriptCause) → Spells bytes tree → IsRefused bytes place cause → ⊥
  refused_not bytes tree place cause h k = k.refused.no_script tree (subst (λ (ts : List Token). IsScript tree ts) (one_list bytes h.tokens k.tokens h.cut k.cut) h.script)

  pub no_both : NoBoth
  no_both bytes tree place cause h k = ⊎_elim (λ a. a.1.no_text h.text) (λ b. refused_not bytes tree place cause h b) (fault_sort bytes place cause k)

  refused_once : (bytes : List ℕ) (place place' : ℕ) (cause cause' : ScriptCause) → IsRefused bytes place cause → IsRefused bytes place' cause' → (place ≡ place') × (cause ≡ cause')
  refused_once bytes place place' cause cause' h k =
      let same : h.rest ≡ k.rest = one_refusal k.tokens h.rest k.rest (subst (λ (ts : List Token). Refuses ts h.rest) (one_list bytes h.tokens k.tokens h.cut k.cut) h.refused) k.refused in
      (h.place_is ∙ ap (place_of (length bytes)) same ∙ sym k.place_is, h.cause_is ∙ ap cause_of same ∙ sym k.cause_is)

  fronts_once : (bytes : List ℕ) (n m : ℕ) → IsValidUpTo bytes n → IsValidUpTo bytes m → (n < m → ⊥) × (m < n → ⊥)
  fronts_once bytes n m h k = (λ lt. h.longest m lt k.front, λ lt. k.longest n lt h.front)

  no_text_once : (bytes : List ℕ) (n m : ℕ) → IsValidUpTo bytes n → IsValidUpTo bytes m → n ≡ m
  no_text_once bytes n m h k = let p = fronts_once bytes n m h k in omega (arith, p.0, p.1)

  pub one_fault : OneFault
  one_fault bytes p q c d h k =
      ⊎_elim
      (λ a. ⊎_elim (λ b. (no_text_once bytes p q a.1.front b.1.front, a.0 ∙ sym b.0)) (λ b. absurd (a.1.no_text b.text)) (fault_sort bytes q d k))
      (λ a. ⊎_elim (λ b. absurd (b.1.no_text a.text)) (λ b. refused_once bytes p q c d a b) (fault_sort bytes q d k))
      (fault_sort bytes p c h)

-- ---- what is refused is the fault

by_kind : (bad : Bool) (bytes : List ℕ) (place : ℕ) → IsRefused bytes place (if bad then BadToken else BadSyntax) → IsFault bytes place (if bad then BadToken else BadSyntax)
by_kind true bytes place h = h
by_kind false bytes place h = h

by_rest : (bytes : List ℕ) (place : ℕ) (rest : List Token) → IsRefused bytes place (cause_of rest) → IsFault bytes place (cause_of rest)
by_rest bytes place [] h = h
by_rest bytes place (t ∷ ts) h = by_kind (tokens_of.is_bad t.kind) bytes place h

pub refused_is : (bytes : List ℕ) (tokens rest : List Token) → IsUtf8 bytes → AreTokens (length bytes) bytes tokens → Refuses tokens rest → FaultIs bytes (Bad (place_of (length bytes) rest) (cause_of rest))
refused_is bytes tokens rest text cut refused =
    by_rest bytes (place_of (length bytes) rest) rest
    (record { text = text; tokens = tokens; rest = rest; cut = cut; refused = refused; place_is = refl; cause_is = refl })

-- ---- what was read

pub spells_outline : ScriptsAreFilled → (bytes : List ℕ) (tokens : List Token) (outline : Outline) → IsUtf8 bytes → AreTokens (length bytes) bytes tokens
    → refusal.IsRead outline tokens → SpellsOutline bytes outline
spells_outline filled bytes tokens outline text cut read = record {
  tree = read.tree;
  spells = record { text = text; tokens = tokens; cut = cut; script = read.script };
  filled = filled read.tree tokens read.script;
  outline_is = read.outline_is;
}

pub reads_tree : tokens_of.OneList → (bytes : List ℕ) (tokens : List Token) → AreTokens (length bytes) bytes tokens → ReadsTree bytes tokens
reads_tree one_list bytes tokens cut tree h =
    script_complete tree tokens (subst (λ (ts : List Token). IsScript tree ts) (one_list bytes h.tokens tokens h.cut cut) h.script)
