-- Every step of a process keeps what holds of it.
use Rattle.std.proofs.Common.{ℕ, true, false, List, [], ◌∷◌}
use Rattle.sh_tree.specs.standard.program.Syntax as p
use Rattle.sh_tree.specs.standard.program.Syntax.{Text}
use Rattle.sh_runs.specs.standard.runs.Environment.{Environment, Frame}
use Rattle.sh_runs.specs.standard.runs.Answers.{Answer}
use Rattle.sh_runs.specs.standard.runs.Steps.{act_on, act}
use Rattle.sh_runs.specs.standard.runs.Work.{Work, Items, Links, Pipeline, Negation, Command, Words, Prepare, Utility, Call, Return, Compound, If, Then, Test, Again, ForWords, ForFields, Clauses, Patterns, Fall, Effect}
use Rattle.sh_domain.specs.Entries.{Around}
use Rattle.sh_domain.specs.Facts.{Facts}
use Rattle.sh_domain.specs.Views.{Certificate}
use Rattle.sh_sound.specs.Going.{front, ProcessOk, StepOk}
use Rattle.sh_sound.specs.Doing.{SimpleAt}
use Rattle.sh_sound.proofs.HoldLemmas.{grows_refl}
use Rattle.sh_sound.proofs.ListLemmas.{step_ends, items_end_ok, item_ok, links_ok, negation_ok, if_ok, then_ok, test_ok, again_ok, for_fields_ok}
use Rattle.sh_sound.proofs.CaseLemmas.{clauses_ok, patterns_ok, fall_ok, for_words_ok}
use Rattle.sh_sound.proofs.ProcessLemmas.{item_starts_ok, pipeline_ok}
use Rattle.sh_sound.proofs.EnterLemmas.{compound_ok}
use Rattle.sh_sound.proofs.CommandLemmas.{command_ok}
use Rattle.sh_sound.proofs.WordsLemmas.{words_ok}
use Rattle.sh_sound.proofs.PrepareStepLemmas.{prepare_ok}
use Rattle.sh_sound.proofs.UtilityStepLemmas.{utility_ok}
use Rattle.sh_sound.proofs.CallStepLemmas.{call_ok}
use Rattle.sh_sound.proofs.ReturnLemmas.{return_ok}

module _ (d : Facts) (c : Certificate) (defined : List Text) where
  abbrev Well : Around → Environment → List Frame → ℕ → List Work → Type 0
  Well base e fs status ws = ProcessOk d c defined (SimpleAt d c defined) base e fs status ws

  abbrev Ok : Around → Environment → List Frame → ℕ → Effect → Type 0
  Ok base e fs status x = StepOk d c defined (SimpleAt d c defined) base e fs status x

  -- a piece of work
  front_ok : (base : Around) (e : Environment) (fs : List Frame) (status : ℕ) (ws : List Work) (a : Answer) (w : Work) → Well base e fs status (w ∷ ws) → Ok base e fs status (act_on e (front fs) status ws a w)
  front_ok base e fs status ws a (Items p.no_items) live = items_end_ok d c defined (SimpleAt d c defined) base e fs status ws a live
  front_ok base e fs status ws a (Items (p.more_items (p.and_or first rest) false others)) live = item_ok d c defined (SimpleAt d c defined) base e fs status ws a first rest others live
  front_ok base e fs status ws a (Items (p.more_items (p.and_or first rest) true others)) live = item_starts_ok d c defined (SimpleAt d c defined) base e fs status ws a first rest others live
  front_ok base e fs status ws a (Links ls) live = links_ok d c defined (SimpleAt d c defined) base e fs status ws a ls live
  front_ok base e fs status ws a (Pipeline (p.pipeline b cs)) live = pipeline_ok d c defined (SimpleAt d c defined) base e fs status ws a b cs live
  front_ok base e fs status ws a Negation live = negation_ok d c defined (SimpleAt d c defined) base e fs status ws a live
  front_ok base e fs status ws a (Command k) live = command_ok d c defined base e fs status ws a k live
  front_ok base e fs status ws a (Words k left fields rs xs) live = words_ok d c defined base e fs status ws a k left fields rs xs live
  front_ok base e fs status ws a (Prepare k fields rs xs failed) live = prepare_ok d c defined base e fs status ws a k fields rs xs failed live
  front_ok base e fs status ws a (Utility k t ts rs xs all values) live = utility_ok d c defined base e fs status ws a k t ts rs xs all values live
  front_ok base e fs status ws a (Call n t ts body rs xs saved) live = call_ok d c defined base e fs status ws a n t ts body rs xs saved live
  front_ok base e fs status ws a (Return n t saved) live = return_ok d c defined (SimpleAt d c defined) base e fs status ws a n t saved live
  front_ok base e fs status ws a (Compound n rs kind) live = compound_ok d c defined (SimpleAt d c defined) base e fs status ws a n rs kind live
  front_ok base e fs status ws a (If n branches otherwise) live = if_ok d c defined (SimpleAt d c defined) base e fs status ws a n branches otherwise live
  front_ok base e fs status ws a (Then n body branches otherwise) live = then_ok d c defined (SimpleAt d c defined) base e fs status ws a n body branches otherwise live
  front_ok base e fs status ws a (Test n kind condition body last) live = test_ok d c defined (SimpleAt d c defined) base e fs status ws a n kind condition body last live
  front_ok base e fs status ws a (Again n kind condition body) live = again_ok d c defined (SimpleAt d c defined) base e fs status ws a n kind condition body live
  front_ok base e fs status ws a (ForWords n name left fields body) live = for_words_ok d c defined (SimpleAt d c defined) base e fs status ws a n name left fields body live
  front_ok base e fs status ws a (ForFields n name fields body) live = for_fields_ok d c defined (SimpleAt d c defined) base e fs status ws a n name fields body live
  front_ok base e fs status ws a (Clauses n cs) live = clauses_ok d c defined (SimpleAt d c defined) base e fs status ws a n cs live
  front_ok base e fs status ws a (Patterns n left body end rest) live = patterns_ok d c defined (SimpleAt d c defined) base e fs status ws a n left body end rest live
  front_ok base e fs status ws a (Fall n cs) live = fall_ok d c defined (SimpleAt d c defined) base e fs status ws a n cs live

  -- any step
  pub act_ok : (base : Around) (e : Environment) (fs : List Frame) (status : ℕ) (ws : List Work) (a : Answer) → Well base e fs status ws → Ok base e fs status (act e (front fs) status ws a)
  unfolding act
  act_ok base e fs status [] a live = step_ends d c defined (SimpleAt d c defined) base e e fs status (grows_refl e) live.bodies
  act_ok base e fs status (w ∷ ws) a live = front_ok base e fs status ws a w live
