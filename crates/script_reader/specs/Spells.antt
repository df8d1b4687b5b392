-- Which tree the bytes of a script spell, and the fault of bytes that spell none.
use Rattle.std.specs.Prelude.{◌≡◌, ℕ, if◌then◌else◌, List, [], ◌∷◌, length, Result, Ok, Err}
use Rattle.std.specs.Str.{IsUtf8, IsValidUpTo}
use Rattle.script_tokens.specs.declared.token.Token.{Token}
use Rattle.script_tokens.specs.Tokens.{AreTokens, is_bad}
use Rattle.script_grammar.specs.declared.tree.Tree.{Tree}
use Rattle.script_grammar.specs.declared.outline.Outline.{Outline}
use Rattle.script_grammar.specs.Filled.{IsFilled}
use Rattle.script_grammar.specs.Grammar.{IsScript}
use Rattle.script_grammar.specs.Outlines.{outline_of}
use Rattle.script_grammar.specs.ScriptReading.{script_read}
use Rattle.script_grammar.specs.Refusal.{Refuses}
use Rattle.script_grammar.specs.declared.fault.ScriptCause.{ScriptCause}
use Rattle.script_grammar.specs.declared.fault.ScriptCause.TheVariants.{NotText, BadToken, BadSyntax, TooMany, TwiceDeclared, UnknownMessage, UnknownActor, UnknownName, WrongCount, WrongType, StopNotLast, BadWindow, BadReply}
use Rattle.script_grammar.specs.declared.fault.ScriptFault.{ScriptFault}
use Rattle.script_grammar.specs.declared.fault.ScriptFault.TheVariants.{Bad, NoMemory}

-- the text cut into its longest tokens, and the tokens derived by the grammar
pub record Spells (bytes : List ℕ) (tree : Tree) : Type 0 where
  pub text : IsUtf8 bytes
  pub tokens : List Token
  pub cut : AreTokens (length bytes) bytes tokens
  pub script : IsScript tree tokens

-- the place of the refused token, or the end of the text
abbrev pub place_of : ℕ → List Token → ℕ
place_of size [] = size
place_of size (t ∷ ts) = t.place

abbrev pub cause_of : List Token → ScriptCause
cause_of [] = BadSyntax
cause_of (t ∷ ts) = if is_bad t.kind then BadToken else BadSyntax

-- the bytes are text, and their tokens are refused at this place for this cause
pub record IsRefused (bytes : List ℕ) (place : ℕ) (cause : ScriptCause) : Type 0 where
  pub text : IsUtf8 bytes
  pub tokens : List Token
  pub rest : List Token
  pub cut : AreTokens (length bytes) bytes tokens
  pub refused : Refuses tokens rest
  pub place_is : place ≡ place_of (length bytes) rest
  pub cause_is : cause ≡ cause_of rest

-- the bytes are no text behind their longest UTF-8 front
pub record IsNoText (bytes : List ℕ) (place : ℕ) : Type 0 where
  pub no_text : IsUtf8 bytes → ⊥
  pub front : IsValidUpTo bytes place

-- the fault of bytes that spell no tree; the other causes are of trees
abbrev pub IsFault : List ℕ → ℕ → ScriptCause → Type 0
IsFault bytes place NotText = IsNoText bytes place
IsFault bytes place BadToken = IsRefused bytes place BadToken
IsFault bytes place BadSyntax = IsRefused bytes place BadSyntax
IsFault bytes place TooMany = ⊥
IsFault bytes place TwiceDeclared = ⊥
IsFault bytes place UnknownMessage = ⊥
IsFault bytes place UnknownActor = ⊥
IsFault bytes place UnknownName = ⊥
IsFault bytes place WrongCount = ⊥
IsFault bytes place WrongType = ⊥
IsFault bytes place StopNotLast = ⊥
IsFault bytes place BadWindow = ⊥
IsFault bytes place BadReply = ⊥

abbrev pub FaultIs : List ℕ → ScriptFault → Type 0
FaultIs bytes (Bad place cause) = IsFault bytes place cause
FaultIs bytes NoMemory = Unit {0}

-- the outline is that of the tree that the bytes spell; the tree has no gaps
pub record SpellsOutline (bytes : List ℕ) (outline : Outline) : Type 0 where
  pub tree : Tree
  pub spells : Spells bytes tree
  pub filled : IsFilled tree
  pub outline_is : outline ≡ outline_of tree

-- the outline of the tree that the bytes spell, or their fault, unless there was no memory
abbrev pub Reads : List ℕ → Result Outline ScriptFault → Type 0
Reads bytes (Ok outline) = SpellsOutline bytes outline
Reads bytes (Err fault) = FaultIs bytes fault

-- reading these tokens gives the tree that the bytes spell, where they spell one
abbrev pub ReadsTree : List ℕ → List Token → Type 0
ReadsTree bytes tokens = (tree : Tree) → Spells bytes tree → script_read tokens ≡ Ok tree

-- bytes spell one tree at the most, and none where they have a fault
abbrev pub OneTree : Type 0
OneTree = (bytes : List ℕ) (tree other : Tree) → Spells bytes tree → Spells bytes other → tree ≡ other

abbrev pub NoBoth : Type 0
NoBoth = (bytes : List ℕ) (tree : Tree) (place : ℕ) (cause : ScriptCause) → Spells bytes tree → IsFault bytes place cause → ⊥

abbrev pub OneFault : Type 0
OneFault = (bytes : List ℕ) (place place' : ℕ) (cause cause' : ScriptCause) → IsFault bytes place cause → IsFault bytes place' cause' → (place ≡ place') × (cause ≡ cause')
