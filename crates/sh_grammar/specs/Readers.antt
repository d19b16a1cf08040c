-- What the readers of the whole language answer: the one thing that the bytes from a place on are,
-- or why they are nothing.
-- POSIX.1-2024, XCU 2.10: a rule of the grammar holds in one way or in none.
use Rattle.std.specs.Prelude.{◌≡◌, ℕ, ◌<◌, ◌≤◌, List, [], ◌∷◌, length, Result, Ok, Err}
use Rattle.sh_tree.specs.declared.limits.TheConstants.{MAX_COMMANDS}
use Rattle.sh_tree.specs.declared.token.command.Lead.{Lead}
use Rattle.sh_tree.specs.declared.token.command.Stage.{Stage}
use Rattle.sh_tree.specs.declared.token.word.Context.{Context}
use Rattle.sh_tree.specs.declared.tree.Word.{Word}
use Rattle.sh_tree.specs.declared.tree.Element.{Element}
use Rattle.sh_tree.specs.declared.tree.Kind.{Kind}
use Rattle.sh_tree.specs.declared.tree.Redirect.{Redirect}
use Rattle.sh_tree.specs.declared.tree.Command.{Command}
use Rattle.sh_tree.specs.declared.tree.Pipe.{Pipe}
use Rattle.sh_tree.specs.declared.tree.Link.{Link}
use Rattle.sh_tree.specs.declared.tree.AndOr.{AndOr}
use Rattle.sh_tree.specs.declared.tree.Script.{Script}
use Rattle.sh_tree.specs.declared.refusal.Refusal.{Refusal}
use Rattle.sh_tree.specs.declared.refusal.Refusal.TheVariants.{TooLong, NulByte, Syntax, LeftOut, TooDeep, TooMany, Memory, Profile, CertSyntax, CertShape}
use Rattle.sh_tree.specs.standard.language.Reading.{ReadsWord, ReadsRedirect, ReadsRedirects, ReadsElements, ReadsCommand, ReadsCompound, ReadsCommands, ReadsPipeline, ReadsLinks, ReadsAndOr, ReadsSequence, ReadsList}
use Rattle.sh_tree.specs.standard.language.States as states
use Rattle.sh_tree.specs.standard.language.States.{Document, nth, past}
use Rattle.sh_grammar.specs.declared.state.State.{State}
use Rattle.sh_grammar.specs.States.{spot_of, here, Stands}

-- What is read of a sort of thing: at a limit, up to a state. The bodies of here-documents come
-- after their operators, and each reading is one without them. With any others the same bytes are
-- read, up to the same state.
abbrev pub Reading : Type 0 → Type 1
Reading A = ℕ → states.State → A → Type 0

-- no bodies
abbrev pub unread : ℕ → Document
unread = nth []

-- x is read within the limit, up to v, and nothing else is read at any limit
pub record One {A : Type 0} (R : Reading A) (v : states.State) (x : A) : Type 0 where
  pub reads : R 64 v x
  pub only : (limit : ℕ) (k : states.State) (y : A) → R limit k y → (k ≡ v) × (y ≡ x)

-- nothing is read
abbrev pub Nothing : {A : Type 0} → Reading A → Type 0
Nothing {A = A} R = (limit : ℕ) (k : states.State) (y : A) → R limit k y → ⊥

-- nothing is read within the limit of nesting
abbrev pub NothingWithin : {A : Type 0} → Reading A → Type 0
NothingWithin {A = A} R = (k : states.State) (y : A) → R 64 k y → ⊥

-- whatever is read has more commands before its end than there may be
abbrev pub Crowded : {A : Type 0} → Reading A → Type 0
Crowded {A = A} R = (limit : ℕ) (k : states.State) (y : A) → R limit k y → MAX_COMMANDS < k.spot.count

-- a refusal, at a place of the text, only if nothing is read
abbrev pub Refused : {A : Type 0} → List ℕ → Reading A → Refusal → Type 0
Refused b R (Syntax f at) = (at ≤ length b) × Nothing R
Refused b R (LeftOut f at) = (at < length b) × Nothing R
Refused b R (TooDeep at) = (at ≤ length b) × NothingWithin R
Refused b R TooMany = Crowded R
Refused b R Memory = Unit {0}
Refused b R TooLong = ⊥
Refused b R (NulByte at) = ⊥
Refused b R (Profile r at) = ⊥
Refused b R (CertSyntax n) = ⊥
Refused b R CertShape = ⊥

-- x is the one thing read, up to v, which is no earlier than `least`
pub record To {A : Type 0} (b : List ℕ) (R : Reading A) (least : ℕ) (x : A) (v : State) : Type 0 where
  pub one : One R (here v) x
  pub from : least ≤ v.at
  pub stands : Stands b v

abbrev pub Answers : {A : Type 0} → List ℕ → Reading A → ℕ → Result (A × State) Refusal → Type 0
Answers b R least (Ok r) = To b R least r.0 r.1
Answers b R least (Err e) = Refused b R e

-- what is read from s on is x, and then what is read from `next` on
pub record Steps {S A : Type 0} (R : S → Reading (List A)) (s : S) (x : A) (next : S) : Type 0 where
  pub forth : (limit : ℕ) (k : states.State) (xs : List A) → R s limit k xs → (ys : List A) × (xs ≡ x ∷ ys) × R next limit k ys
  pub back : (k : states.State) (ys : List A) → R next 64 k ys → R s 64 k (x ∷ ys)

-- What is read from a state on

-- the word in the context at i, which belongs to what is read from s on
abbrev pub WordAt : List ℕ → Context → ℕ → State → Reading Word
WordAt b x i s limit v w = (u : states.Spot) × ReadsWord limit b x (spot_of i s) u w × (v ≡ past b u (here s))

abbrev pub ElementsFrom : List ℕ → Stage × State → Reading (List Element)
ElementsFrom b s limit v es = ReadsElements limit b unread s.0 (here s.1) v es

abbrev pub CommandFrom : List ℕ → State → Reading Command
CommandFrom b s limit v c = ReadsCommand limit b unread (here s) v c

abbrev pub CompoundFrom : List ℕ → Lead → State → Reading Kind
CompoundFrom b l s limit v k = ReadsCompound limit b unread l (here s) v k

abbrev pub CommandsFrom : List ℕ → State → Reading (List Command)
CommandsFrom b s limit v cs = ReadsCommands limit b unread (here s) v cs

abbrev pub PipelineFrom : List ℕ → State → Reading Pipe
PipelineFrom b s limit v p = ReadsPipeline limit b unread (here s) v p

abbrev pub LinksFrom : List ℕ → State → Reading (List (Link × Pipe))
LinksFrom b s limit v ps = ReadsLinks limit b unread (here s) v ps

abbrev pub AndOrFrom : List ℕ → State → Reading AndOr
AndOrFrom b s limit v l = ReadsAndOr limit b unread (here s) v l

abbrev pub SequenceFrom : List ℕ → State → Reading Script
SequenceFrom b s limit v t = ReadsSequence limit b unread (here s) v t

abbrev pub ListFrom : List ℕ → State → Reading Script
ListFrom b s limit v t = ReadsList limit b unread (here s) v t

abbrev pub RedirectFrom : List ℕ → State → Reading Redirect
RedirectFrom b s limit v q = ReadsRedirect limit b unread (here s) v q

abbrev pub RedirectsFrom : List ℕ → State → Reading (List Redirect)
RedirectsFrom b s limit v qs = ReadsRedirects limit b unread (here s) v qs
