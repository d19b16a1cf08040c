-- When the work that a process has left meets the rules, from what is known at its front on: what
-- each piece of it needs, and what is known after that piece.
-- POSIX.1-2024, XCU 2.9 (shell commands), 2.13 (shell execution environment), 2.15 (break,
-- continue, return).
use Rattle.std.specs.Prelude.{◌≡◌, ℕ, Bool, true, false, ◌||◌, List, [], ◌∷◌, ◌++◌, length, codes, Option, Some, None, is_some, ◌⊎◌}
use Rattle.std.specs.List.{list_any}
use Rattle.sh_tree.specs.declared.tree.ClauseEnd.{ClauseEnd}
use Rattle.sh_tree.specs.declared.tree.LoopKind.{LoopKind}
use Rattle.sh_tree.specs.standard.language.Bytes.{is_name}
use Rattle.sh_tree.specs.standard.program.Syntax as p
use Rattle.sh_tree.specs.standard.program.Syntax.{Text}
use Rattle.sh_tree.specs.standard.program.Words.{is_plainly, words_in}
use Rattle.sh_runs.specs.standard.runs.Builtins.{restored}
use Rattle.sh_runs.specs.standard.runs.Environment.{Environment, Frame, is_one_of}
use Rattle.sh_runs.specs.standard.runs.Steps.{opened}
use Rattle.sh_runs.specs.standard.runs.Work.{Saved, Work, Items, Links, Pipeline, Negation, Command, Words, Prepare, Utility, Call, Return, Compound, If, Then, Test, Again, ForWords, ForFields, Clauses, Patterns, Fall, Start, Shares, Copies, Frames, Keeps, Pushes, Pops, Effect}
use Rattle.sh_domain.specs.declared.rule.FlowRule.{FlowRule}
use Rattle.sh_domain.specs.Entries.{Around, alone, in_loop, in_function, items_after, links_after, pipeline_after, behind_list, otherwise_seen, turns, falls, items_entered, links_entered, pipeline_entered, command_entered, branches_entered, otherwise_entered, clauses_entered, word_entered}
use Rattle.sh_domain.specs.Facts.{Facts, NotReached, Known}
use Rattle.sh_domain.specs.Gains.{word_gains, words_gains, redirect_gains, redirects_gains}
use Rattle.sh_domain.specs.Needs.{word_unmet}
use Rattle.sh_domain.specs.Operands.{Names}
use Rattle.sh_domain.specs.Rules.{is_last, matches_always}
use Rattle.sh_domain.specs.Views as views
use Rattle.sh_domain.specs.Views.{Certificate, Before, AfterZero, AfterNonzero, Head, Entry, ReturnsZero, ReturnsNonzero, Seen, After, Both, if_zero, if_nonzero, in_any_case, swapped, after_command, at, gaining, gaining_names, without_job, stepped, Define}
use Rattle.sh_sound.specs.Fields.{FieldsFit}
use Rattle.sh_sound.specs.Holding.{Stands, Holds, Grows, OneHolds, AfterHolds, Entails, Leads}
use Rattle.sh_domain.specs.Inclusions.{Each, Covers, Leaves, MayDrop, LoopRules, ForRules, BranchesLeave, OtherwiseLeaves, ClausesLeave, BodyRules, word_formed}

-- What is round the front of the work, of a process that began in `base`: the marks of loops and of
-- calls lie in the work.
unfoldable pub around : Around → List Work → Around
around base [] = base
around base (Return n f saved ∷ ws) = in_function f
around base (Test n kind condition body last ∷ ws) = in_loop n (around base ws)
around base (Again n kind condition body ∷ ws) = in_loop n (around base ws)
around base (ForFields n name fields body ∷ ws) = in_loop n (around base ws)
around base (w ∷ ws) = around base ws

unfoldable pub number_of : p.Command → ℕ
number_of (p.command n offset kind rs) = n

-- the names that were not set before the prefix assignments of a call
unfoldable pub unset_before : Saved → List Text
unset_before [] = []
unset_before ((name, Some v) ∷ xs) = unset_before xs
unset_before ((name, None) ∷ xs) = name ∷ unset_before xs

-- the innermost frame
unfoldable pub front : List Frame → Frame
front [] = []
front (f ∷ fs) = f

-- the frames of a process after a step
unfoldable pub frames_behind : List Frame → Frames → List Frame
frames_behind [] (Keeps g) = []
frames_behind (f ∷ fs) (Keeps g) = g ∷ fs
frames_behind fs (Pushes g) = g ∷ fs
frames_behind [] Pops = []
frames_behind (f ∷ fs) Pops = fs

-- the frame that a process began with stays as it is
unfoldable pub FrameStays : List Frame → Frames → Type 0
FrameStays (f ∷ []) (Keeps g) = g ≡ f
FrameStays fs x = Unit {0}

-- the first of the callers, and the others
unfoldable pub OfFirst : List Facts → (Facts → List Facts → Type 0) → Type 0
OfFirst [] P = ⊥
OfFirst (kept ∷ callers) P = P kept callers

-- a process begins outside loops and functions, and nothing in it waits for a return
pub record Began (base : Around) (callers : List Facts) : Type 0 where
  pub none_waits : callers ≡ []
  pub no_loop : base.loops ≡ []
  pub no_function : base.function ≡ None

-- where a function returns
abbrev pub after_function : Text → After
after_function f = views.Each (at (ReturnsZero f)) (at (ReturnsNonzero f))

-- facts that claim none of these names
unfoldable pub Apart : Facts → Names → Type 0
Apart NotReached names = Unit {0}
Apart (Known v g a) names = ((t : Text) → is_one_of names.vars t ≡ true → v t ≡ false) × ((t : Text) → is_one_of names.functions t ≡ true → g t ≡ false)

module _ (start : Facts) (c : Certificate) (defined : List Text) where
  -- Words

  -- a word that may be expanded if this is seen
  pub record WordAt (b : Seen) (w : p.Word) : Type 0 where
    pub seen : Seen
    pub facts : Facts
    pub entails : Entails start c b seen
    pub knows : (e : Environment) (f : Frame) → OneHolds start c b e f → Holds facts e f
    pub rules : Each (Stands start c defined) (word_entered seen w)
    pub met : word_unmet facts w ≡ []
    pub formed : word_formed w ≡ true

  -- one after the other
  unfoldable pub WordsAt : Seen → p.Words → Type 0
  WordsAt b p.no_words = Unit {0}
  WordsAt b (p.more_words w ws) = WordAt b w × WordsAt (gaining (word_gains w) b) ws

  -- each by itself
  unfoldable pub PatternsAt : Seen → p.Words → Type 0
  PatternsAt b p.no_words = Unit {0}
  PatternsAt b (p.more_words w ws) = WordAt b w × PatternsAt b ws

  unfoldable pub RedirectsAt : Seen → p.Redirects → Type 0
  RedirectsAt b p.no_redirects = Unit {0}
  RedirectsAt b (p.more_redirects r rs) = WordAt b (opened r) × RedirectsAt (gaining (redirect_gains r) b) rs

  unfoldable pub ForWordsAt : Seen → p.ForWords → Type 0
  ForWordsAt b p.every_parameter = Unit {0}
  ForWordsAt b (p.listed ws) = WordsAt b ws

  -- Lists

  -- what may be entered there, by some rule
  abbrev pub ItemsAt : Around → After → p.Items → Type 0
  ItemsAt x o is = (rule : FlowRule) × Each (Stands start c defined) (items_entered rule x o is)

  abbrev pub PipelineAt : Around → Seen → p.Pipeline → Type 0
  PipelineAt x s q = (rule : FlowRule) × Each (Stands start c defined) (pipeline_entered rule x s q)

  abbrev pub CommandAt : Around → Seen → p.Command → Type 0
  CommandAt x s k = (rule : FlowRule) × Each (Stands start c defined) (command_entered rule x s k)

  -- Compound commands

  -- the branches of `if` that are left
  pub record BranchesAt (x : Around) (n : ℕ) (s : Seen) (branches : p.Branches) (otherwise : p.Otherwise) : Type 0 where
    pub inside : Each (Stands start c defined) (branches_entered x s branches)
    pub last : Each (Stands start c defined) (otherwise_entered x (otherwise_seen s branches) otherwise)
    pub leave : BranchesLeave start c n s branches
    pub leaves : OtherwiseLeaves start c n (otherwise_seen s branches) otherwise

  pub record LoopAt (x : Around) (n : ℕ) (kind : LoopKind) (condition body : p.Items) : Type 0 where
    pub first : ItemsAt (in_loop n x) (Both (at (Head n))) condition
    pub turn : ItemsAt (in_loop n x) (Both (turns kind (items_after (Both (at (Head n))) condition))) body
    pub rules : LoopRules start c n kind condition body

  pub record ForAt (x : Around) (n : ℕ) (name : Text) (body : p.Items) : Type 0 where
    pub named : is_name name ≡ true
    pub turn : ItemsAt (in_loop n x) (Both (gaining_names (name ∷ []) (at (Head n)))) body
    pub rules : ForRules start c n name body

  unfoldable pub PatternsOf : Seen → p.Clauses → Type 0
  PatternsOf s p.no_clauses = Unit {0}
  PatternsOf s (p.more_clauses patterns body end rest) = PatternsAt s patterns × PatternsOf s rest

  -- the clauses of `case` that are left; the list of the first may be entered from the list before
  -- it
  pub record ClausesAt (x : Around) (n : ℕ) (s fallen : Seen) (cs : p.Clauses) : Type 0 where
    pub entered : Each (Stands start c defined) (clauses_entered x s fallen cs)
    pub leave : ClausesLeave start c n s fallen cs
    pub patterns : PatternsOf s cs

  -- a clause, with the patterns of it that are left
  pub record ClauseAt (x : Around) (n : ℕ) (s fallen : Seen) (left : p.Words) (body : p.Items) (end : ClauseEnd) (rest : p.Clauses) : Type 0 where
    pub patterns : PatternsAt s left
    pub entered : ItemsAt x (Both (s ++ fallen)) body
    pub leaves : is_last end rest ≡ true → Leaves start c n (items_after (Both (s ++ fallen)) body)
    pub behind : ClausesAt x n s (falls end (items_after (Both (s ++ fallen)) body)) rest
    pub unmatched : (list_any (is_plainly (codes "*")) (words_in left) || matches_always rest) ≡ false → Covers start c (AfterZero n) s

  -- after `;&`
  unfoldable pub FallAt : Around → ℕ → After → p.Clauses → Type 0
  FallAt x n q p.no_clauses = Leads start c q (after_command n)
  FallAt x n q (p.more_clauses patterns body end rest) = (s : Seen) × (fallen : Seen) × Leads start c q (Both fallen) × ClausesAt x n s fallen (p.more_clauses patterns body end rest)

  -- a function's body: it is entered where the function is, and returns where it returns
  pub record BodyOk (f : Text) (body : p.Command) : Type 0 where
    pub named : is_name f ≡ true
    pub listed : is_one_of defined f ≡ true
    pub entered : CommandAt (in_function f) (at (Entry f)) body
    pub rules : BodyRules start c f body

  -- each function that is defined is one of the script's
  abbrev pub Bodies : (Text → Option p.Command) → Type 0
  Bodies functions = (f : Text) (body : p.Command) → functions f ≡ Some body → BodyOk f body

  -- a compound command after its redirections; K is what has to hold of the work after it
  unfoldable pub KindAt : Around → ℕ → p.Kind → Seen → (After → Type 0) → Type 0
  KindAt x n (p.Simple es) s K = ⊥
  KindAt x n (p.Group list) s K = ItemsAt x (Both s) list × K (items_after (Both s) list)
  KindAt x n (p.Subshell list) s K = ItemsAt alone (Both (without_job (at (Before n)))) list × Leaves start c n (Both (at (Before n)))
  KindAt x n (p.Conditional branches otherwise) s K = BranchesAt x n s branches otherwise
  KindAt x n (p.Loop kind condition body) s K = Entails start c s (at (Head n)) × LoopAt x n kind condition body
  KindAt x n (p.For name ws body) s K = ForWordsAt s ws × Entails start c (behind_list ws s) (at (Head n)) × ForAt x n name body
  KindAt x n (p.Case w cs) s K =
      WordAt s w × ClausesAt x n (gaining (word_gains w) s) [] cs × (matches_always cs ≡ false → Covers start c (AfterZero n) (gaining (word_gains w) s))
  KindAt x n (p.Define name body) s K = Covers start c (AfterZero n) (stepped (Define name) (at (Before n))) × BodyOk name body

  -- redirections that are left, and the command after them
  pub record CompoundAt (x : Around) (n : ℕ) (rs : p.Redirects) (kind : p.Kind) (s : Seen) (K : After → Type 0) : Type 0 where
    pub redirects : RedirectsAt s rs
    pub failed : Entails start c s (at (AfterNonzero n)) ⊎ (rs ≡ p.no_redirects)
    pub first : Entails start c s (at (Before n))
    pub behind : Seen
    pub through : Entails start c (gaining (redirects_gains rs) s) behind
    pub needs : KindAt x n kind behind K

  -- Calls

  -- The return mark of a call. The caller keeps these facts, none of which the function drops. With
  -- them and with what is known where the function returns, what is claimed after the call is true,
  -- whichever of the prefix assignments stay.
  pub record ReturnAt (x : Around) (n : ℕ) (f : Text) (saved : Saved) (kept : Facts) : Type 0 where
    pub comes : (restores : ℕ → Bool) (status : ℕ) (e : Environment) (inner outer : Frame)
        → AfterHolds start c status (after_function f) e inner → Holds kept e outer → AfterHolds start c status (after_command n) (restored restores 0 e saved) outer
    pub apart : Apart kept (c.drops f)
    pub dropped : MayDrop start c x (c.drops f)
    pub unset : MayDrop start c x (record { vars = unset_before saved; functions = [] })

  -- The simple command that is done, and what it needs (`Doing` says so of each of its four
  -- stages).
  module _ (SimpleAt : Around → Work → Seen → Type 0) where
    -- What a piece of work needs where q is known, with x round it; K says what has to be known
    -- after it. `Return` follows its caller. While the words of a simple command are expanded it is
    -- after no other work.
    unfoldable pub FrontGood : Around → Work → (After → Type 0) → After → Type 0
    FrontGood x (Items is) K q = ItemsAt x q is × K (items_after q is)
    FrontGood x (Links ls) K q = Each (Stands start c defined) (links_entered x q ls) × K (links_after q ls)
    FrontGood x (Pipeline pipe) K q = PipelineAt x (in_any_case q) pipe × K (pipeline_after (in_any_case q) pipe)
    FrontGood x Negation K q = K (swapped true q)
    FrontGood x (Command k) K q = CommandAt x (in_any_case q) k × K (after_command (number_of k))
    FrontGood x (Words k left fields rs xs) K q = ⊥
    FrontGood x (Prepare k fields rs xs failed) K q = SimpleAt x (Prepare k fields rs xs failed) (in_any_case q) × K (after_command k.number)
    FrontGood x (Utility k name operands rs xs prefixes values) K q =
        SimpleAt x (Utility k name operands rs xs prefixes values) (in_any_case q) × K (after_command k.number)
    FrontGood x (Call n f operands body rs xs saved) K q = SimpleAt x (Call n f operands body rs xs saved) (in_any_case q) × K (after_command n)
    FrontGood x (Return n f saved) K q = ⊥
    FrontGood x (Compound n rs kind) K q = CompoundAt x n rs kind (in_any_case q) K × K (after_command n)
    FrontGood x (If n branches otherwise) K q = BranchesAt x n (in_any_case q) branches otherwise × K (after_command n)
    FrontGood x (Then n body branches otherwise) K q =
        ItemsAt x (Both (if_zero q)) body × Leaves start c n (items_after (Both (if_zero q)) body) × BranchesAt x n (if_nonzero q) branches otherwise × K (after_command n)
    FrontGood x (Test n kind condition body last) K q =
        Leads start c q (items_after (Both (at (Head n))) condition) × LoopAt x n kind condition body × K (after_command n)
    FrontGood x (Again n kind condition body) K q = Leads start c q (Both (at (Head n))) × LoopAt x n kind condition body × K (after_command n)
    FrontGood x (ForWords n name left fields body) K q =
        WordsAt (in_any_case q) left × Entails start c (gaining (words_gains left) (in_any_case q)) (at (Head n)) × ForAt x n name body × K (after_command n)
    FrontGood x (ForFields n name fields body) K q = Leads start c q (Both (at (Head n))) × ForAt x n name body × K (after_command n)
    FrontGood x (Clauses n cs) K q =
        ((fallen : Seen) × ClausesAt x n (in_any_case q) fallen cs) × (matches_always cs ≡ false → Covers start c (AfterZero n) (in_any_case q)) × K (after_command n)
    FrontGood x (Patterns n left body end rest) K q = ((fallen : Seen) × ClauseAt x n (in_any_case q) fallen left body end rest) × K (after_command n)
    FrontGood x (Fall n cs) K q = FallAt x n q cs × K (after_command n)

    -- less may be claimed than is known
    pub record Weaker (K : After → Type 0) (o : After) : Type 0 where
      pub after : After
      pub leads : Leads start c o after
      pub goes : K after

    -- The work meets the rules where o is known; each caller that waits for a return keeps the
    -- facts of its place in the list, the innermost first.
    unfoldable pub Good : Around → List Facts → List Work → After → Type 0
    Good base callers [] o = Began base callers
    Good base callers (Return n f saved ∷ ws) o =
        OfFirst callers (λ kept others. Leads start c o (after_function f) × ReturnAt (around base ws) n f saved kept × Good base others ws (after_command n))
    Good base callers (w ∷ ws) o = Weaker (λ q. FrontGood (around base ws) w (λ r. Good base callers ws r) q) o

    -- The work of a process in this frame: while the words of a simple command are expanded, the
    -- fields so far are those of this frame.
    unfoldable pub GoodIn : Frame → Around → List Facts → List Work → After → Type 0
    GoodIn f base callers (Words k left fields rs xs ∷ ws) o =
        FieldsFit (length f) k.elements (words_in left) fields
        × Weaker (λ q. SimpleAt (around base ws) (Words k left fields rs xs) (in_any_case q) × Good base callers ws (after_command k.number)) o
    GoodIn f base callers ws o = Good base callers ws o

    -- what callers keep is true in the environment and in their frames
    unfoldable pub Stays : List Facts → Environment → List Frame → Type 0
    Stays [] e fs = (f : Frame) × (fs ≡ f ∷ [])
    Stays (kept ∷ callers) e [] = ⊥
    Stays (kept ∷ callers) e (f ∷ []) = ⊥
    Stays (kept ∷ callers) e (f ∷ g ∷ fs) = Holds kept e g × Stays callers e (g ∷ fs)

    -- What holds of one process at every moment.
    pub record ProcessOk (base : Around) (e : Environment) (fs : List Frame) (status : ℕ) (ws : List Work) : Type 0 where
      pub known : After
      pub callers : List Facts
      pub good : GoodIn (front fs) base callers ws known
      pub holds : AfterHolds start c status known e (front fs)
      pub stays : Stays callers e fs
      pub bodies : Bodies e.functions

    -- Steps

    -- a process that is started with this frame: one that shares drops nothing, and who started it
    -- goes on
    unfoldable pub StartOk : Environment → Frame → ℕ → Option (ℕ × List Work) → Start → Type 0
    StartOk e f status next (Shares ws) = (is_some next ≡ true) × ((base : Around) × (base.shares ≡ true) × ProcessOk base e (f ∷ []) status ws)
    StartOk e f status next (Copies e' ws) = (base : Around) × ProcessOk base e' (f ∷ []) status ws

    -- a step that calls or returns starts nothing
    unfoldable pub StartsOk : Environment → Frames → ℕ → Option (ℕ × List Work) → List Start → Type 0
    StartsOk e (Keeps f) status next xs = Each (StartOk e f status next) xs
    StartsOk e (Pushes f) status next xs = xs ≡ []
    StartsOk e Pops status next xs = xs ≡ []

    unfoldable pub NextOk : Around → Environment → List Frame → Option (ℕ × List Work) → Type 0
    NextOk base e fs None = Bodies e.functions
    NextOk base e fs (Some x) = ProcessOk base e fs x.0 x.1

    -- What a step keeps. It meets no parameter that is not set. Unless it splits a value, the
    -- process stays well, or ends and leaves functions that are well, and so do those that it
    -- starts. In a part of a pipeline nothing is dropped, and the frame stays.
    pub record StepOk (base : Around) (e : Environment) (fs : List Frame) (status : ℕ) (x : Effect) : Type 0 where
      pub quiet : x.unset ≡ false
      pub next : x.split ≡ false → NextOk base x.environment (frames_behind fs x.frames) x.next
      pub starts : StartsOk x.environment x.frames status x.next x.starts
      pub grows : base.shares ≡ true → Grows e x.environment
      pub frame : base.shares ≡ true → FrameStays fs x.frames
