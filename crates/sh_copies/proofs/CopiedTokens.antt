-- The token with which a whole word begins is a word wherever it is.
-- POSIX.1-2024, XCU 2.3 (token recognition), 2.4 (reserved words), 2.9.1 (simple commands).
use Rattle.std.proofs.Common.{◌≡◌, ℕ, suc, ◌+◌, ◌-◌, ◌<◌, ◌==◌, Bool, true, false, not, ◌&&◌, ◌||◌, if◌then◌else◌, Option, Some, None, List, [], ◌∷◌, ◌++◌, length, drop, take, refl, sym, ap, subst, ◌∙◌, ◌⊎◌, inl, inr, arith, append-nil, append_assoc, length-drop}
use Rattle.std.proofs.Math.Bool.{and-false}
use Rattle.std.specs.List.{list_all}
use Rattle.std.proofs.lemmas.Bool.{cond-true, cond-false, true≢false, and_parts}
use Rattle.std.proofs.lemmas.Bool.Decides.{nat_tests}
use Rattle.std.proofs.lemmas.List.{drop-drop, drop_at, take_at, length-append, length-take-le}
use Rattle.std.proofs.lemmas.List.Folds.{drop_split}
use Rattle.sh_copies.specs.Copied.{Role, Field, Unsplit, Value, context_of, TokenOf, IsBehindWord, is_declaring}
use Rattle.sh_tree.specs.declared.refusal.Form.TheVariants as form
use Rattle.sh_tree.specs.declared.tree.Part.{Part}
use Rattle.sh_tree.specs.declared.tree.Word.{Word}
use Rattle.sh_tree.specs.declared.token.command.Lead.{Lead}
use Rattle.sh_tree.specs.declared.token.command.Lead.TheVariants as lead
use Rattle.sh_tree.specs.declared.token.command.Operator.{Operator}
use Rattle.sh_tree.specs.declared.token.command.Reserved.{Reserved}
use Rattle.sh_tree.specs.declared.token.command.Reserved.TheVariants as word
use Rattle.sh_tree.specs.declared.token.command.Stage.{Stage}
use Rattle.sh_tree.specs.declared.token.command.Stage.TheVariants.{First, Prefixed, Named}
use Rattle.sh_tree.specs.declared.token.word.Context.{Context}
use Rattle.sh_tree.specs.declared.token.word.Site.TheVariants as site
use Rattle.sh_tree.specs.declared.token.word.Sign.{Sign}
use Rattle.sh_tree.specs.standard.Tree.{text_of}
use Rattle.sh_tree.specs.standard.language.Bytes.{is_blank, is_newline, is_backslash, is_digit, is_name_start, is_name_byte, is_name, is_operator_byte, ends_token, is_first, is_last_backquote, run, name_length, joined_length, behind_joined}
use Rattle.sh_tree.specs.standard.language.Commands.{bare_word, is_bare, blanks, blank_length, gap_length, lead_at, other_lead, word_lead, first_lead, reserved_lead, name_end, name_lead, number_lead, is_definition, is_parenthesis, is_assignment, is_named, is_angle, is_word, is_split, entry_of, reserved_words, left_out_names, declares, operator_of}
use Rattle.sh_tree.specs.standard.language.Contexts.{in_word, in_value, in_operand, in_stage}
use Rattle.sh_tree.specs.standard.language.Reading.{ReadsParts, ReadsWord}
use Rattle.sh_tree.specs.standard.language.States.{Spot}
use Rattle.sh_tree.specs.standard.language.Trees.{span}
use Rattle.sh_tree.specs.standard.language.Words as words
use Rattle.sh_tree.proofs.Inversions.{word_parts}
use Rattle.sh_reads.proofs.BeginningLemmas.{word_goes}
use Rattle.sh_reads.proofs.MoveLemmas.{is_end, lead_inside as text_inside}
use Rattle.sh_copies.proofs.AlikeBytes.{by_bool, run_yes, run_no, zero_not, not_joined}
use Rattle.sh_copies.proofs.CopiedBare.{Beyond, beyond}
use Rattle.sh_copies.proofs.CopiedLeads.{no_operator, lead_inside}
use Rattle.sh_copies.proofs.Declaring.{edge, edge_bare, ends_stop, token_first, parts_end, declares_read, name_bare}
use Rattle.sh_copies.proofs.Forward.{parts_forward}
use Rattle.sh_copies.proofs.Inside.{parts_inside}
use Rattle.sh_copies.proofs.Leads.{bare_front, lead_front, lead_is_no_sign}

-- Texts in two pieces

-- the bytes of a class at the front
record Split (p : ℕ → Bool) (v : List ℕ) : Type 0 where
  front : List ℕ
  back : List ℕ
  is : v ≡ front ++ back
  all : list_all p front ≡ true
  none : is_first p back ≡ false

split : (p : ℕ → Bool) (v : List ℕ) → Split p v
unfolding is_first
split p [] = record { front = []; back = []; is = refl; all = refl; none = refl }
split p (c ∷ v) = by_bool (p c)
    (λ yes. let more = split p v in record { front = c ∷ more.front; back = more.back; is = ap (λ t. c ∷ t) more.is; all = ap (λ t. t && list_all p more.front) yes ∙ more.all; none = more.none })
    (λ no. record { front = []; back = c ∷ v; is = refl; all = refl; none = no })

pub run_front : (p : ℕ → Bool) (v cs : List ℕ) → list_all p v ≡ true → is_first p cs ≡ false → run p (v ++ cs) ≡ length v
unfolding is_first
run_front p [] [] all none = refl
run_front p [] (c ∷ cs) all none = run_no p c cs none
run_front p (c ∷ v) cs all none =
    let both = and_parts (p c) (list_all p v) all in
    run_yes p c (v ++ cs) both.0 ∙ ap suc (run_front p v cs both.1 none)

-- what follows the front, before other bytes
first_behind : (p : ℕ → Bool) (back r : List ℕ) → is_first p back ≡ false → is_first p r ≡ false → is_first p (back ++ r) ≡ false
unfolding is_first
first_behind p [] r h k = k
first_behind p (c ∷ back) r h k = h

pub all_weaker : (p q : ℕ → Bool) → ((c : ℕ) → p c ≡ true → q c ≡ true) → (w : List ℕ) → list_all p w ≡ true → list_all q w ≡ true
all_weaker p q weaker [] all = refl
all_weaker p q weaker (c ∷ w) all =
    let both = and_parts (p c) (list_all p w) all in
    ap (λ t. t && list_all q w) (weaker c both.0) ∙ all_weaker p q weaker w both.1

digit_bare : (c : ℕ) → is_digit c ≡ true → is_bare c ≡ true
digit_bare c h = grind (arith, nat_tests)

-- no byte of a class is where a word may end
edge_none : (p : ℕ → Bool) → ((c : ℕ) → p c ≡ true → is_bare c ≡ true) → (r : List ℕ) → words.ends_joined r ≡ true → is_first p r ≡ false
unfolding is_first
edge_none p weaker [] h = refl
edge_none p weaker (c ∷ cs) h = by_bool (p c) (λ yes. absurd (true≢false (sym (weaker c yes) ∙ edge_bare c cs (edge c cs h)))) (λ no. no)

-- What may follow a word

record Ending (r : List ℕ) : Type 0 where
  byte : ℕ
  rest : List ℕ
  is : r ≡ byte ∷ rest
  ends : ends_token byte ≡ true
  angle : is_angle (byte ∷ rest) ≡ false
  equals : (byte == 61) ≡ false
  backslash : is_backslash byte ≡ false

ending : (r : List ℕ) → IsBehindWord r → Ending r
unfolding is_first
ending [] h = absurd (true≢false (sym h.ends))
ending (c ∷ cs) h = let k = h.ends in record { byte = c; rest = cs; is = refl; ends = ends c k; angle = angle c k; equals = equals c k; backslash = backslash c k }
  where
    ends : (c : ℕ) → (is_blank c || is_newline c || c == 41) ≡ true → ends_token c ≡ true
    ends c h = grind (arith, nat_tests)

    angle : (c : ℕ) → (is_blank c || is_newline c || c == 41) ≡ true → (c == 60 || c == 62) ≡ false
    angle c h = grind (arith, nat_tests)

    equals : (c : ℕ) → (is_blank c || is_newline c || c == 41) ≡ true → (c == 61) ≡ false
    equals c h = grind (arith, nat_tests)

    backslash : (c : ℕ) → (is_blank c || is_newline c || c == 41) ≡ true → is_backslash c ≡ false
    backslash c h = grind (arith, nat_tests)

ending_joined : (r : List ℕ) → Ending r → words.ends_joined r ≡ true
ending_joined r e = ap words.ends_joined e.is ∙ token_first e.byte e.rest e.ends

no_gap : (c : ℕ) (cs : List ℕ) → is_blank c ≡ false → joined_length (c ∷ cs) ≡ 0 → gap_length (c ∷ cs) ≡ 0
unfolding gap_length joined_length
no_gap c [] h k = cond-false _ _ _ h
no_gap c (d ∷ cs) h k = cond-false _ _ _ h ∙ go (is_backslash c && is_newline d) k
  where
    go : (t : Bool) → (if t then 2 + joined_length cs else 0) ≡ 0 → (if t then 2 + gap_length cs else 0) ≡ 0
    go true k = absurd (omega arith)
    go false k = refl

-- A whole word

-- a byte of the word after unquoted bytes
abbrev Byte : List ℕ → List ℕ → Type 0
Byte v r = (front : List ℕ) (c : ℕ) (back : List ℕ) → v ≡ front ++ (c ∷ back) → list_all is_bare front ≡ true → Beyond c back r

no_last : (c : ℕ) (back r' : List ℕ) → Ending r' → is_last_backquote (c ∷ (back ++ r')) ≡ false
unfolding is_last_backquote
no_last c [] r' e = ap (λ t. is_last_backquote (c ∷ t)) e.is
no_last c (d ∷ back) r' e = refl

goes_on : (c : ℕ) (back r r' : List ℕ) → Beyond c back r → Ending r' → words.ends_joined (c ∷ (back ++ r')) ≡ false
unfolding is_first
goes_on c back r r' at e =
    let cs = back ++ r' in
    ap (λ n. length (drop n (c ∷ cs)) == 0 || is_first ends_token (drop n (c ∷ cs)) || is_last_backquote (drop n (c ∷ cs))) (at.none r')
    ∙ ap (λ t. t || ends_token c || is_last_backquote (c ∷ cs)) (zero_not (length cs)) ∙ ap (λ t. t || is_last_backquote (c ∷ cs)) at.no_token ∙ no_last c back r' e

module _ (v r : List ℕ) (byte : Byte v r) (ends : words.ends_joined r ≡ true) where
  -- the unquoted bytes end alike
  bare_by : (cs : List ℕ) (front back : List ℕ) → v ≡ front ++ back → list_all is_bare front ≡ true → is_first is_bare (back ++ cs) ≡ false
      → bare_word (v ++ cs) 0 ≡ (if words.ends_joined (back ++ cs) then front else [])
  unfolding bare_word
  bare_by cs front back is all none =
      let whole : v ++ cs ≡ front ++ (back ++ cs) = ap (λ t. t ++ cs) is ∙ append_assoc front back cs in
      let long = run_front is_bare front (back ++ cs) all none in
      ap (λ t. if words.ends_joined (drop (run is_bare t) t) then take (run is_bare t) t else []) whole
      ∙ ap (λ n. if words.ends_joined (drop n (front ++ (back ++ cs))) then take n (front ++ (back ++ cs)) else []) long
      ∙ ap (λ t. if words.ends_joined t then take (length front) (front ++ (back ++ cs)) else []) (drop_at front (back ++ cs) (length front) refl)
      ∙ ap (λ t. if words.ends_joined (back ++ cs) then t else []) (take_at front (back ++ cs) (length front) refl)

  record BareSame (r' : List ℕ) : Type 0 where
    same : bare_word (v ++ r') 0 ≡ bare_word (v ++ r) 0
    either : (bare_word (v ++ r') 0 ≡ v) ⊎ (bare_word (v ++ r') 0 ≡ [])

  bare_same : (r' : List ℕ) → Ending r' → BareSame r'
  unfolding is_first
  bare_same r' e =
      let s = split is_bare v in
      let here = ending_joined r' e in
      go s.front s.back s.is s.all s.none (first_behind is_bare s.back r s.none (edge_none is_bare (λ c h. h) r ends)) (first_behind is_bare s.back r' s.none (edge_none is_bare (λ c h. h) r' here)) here
    where
      go : (front back : List ℕ) → v ≡ front ++ back → list_all is_bare front ≡ true → is_first is_bare back ≡ false → is_first is_bare (back ++ r) ≡ false → is_first is_bare (back ++ r') ≡ false
          → words.ends_joined r' ≡ true → BareSame r'
      go front [] is all none k l here =
          let one = bare_by r' front [] is all l ∙ cond-true _ _ _ here in
          let two = bare_by r front [] is all k ∙ cond-true _ _ _ ends in
          record { same = one ∙ sym two; either = inl (one ∙ sym (is ∙ append-nil front)) }
      go front (c ∷ back) is all none k l here =
          let at = byte front c back is all in
          let one = bare_by r' front (c ∷ back) is all l ∙ cond-false _ _ _ (goes_on c back r r' at e) in
          let two = bare_by r front (c ∷ back) is all k ∙ cond-false _ _ _ at.goes_on in
          record { same = one ∙ sym two; either = inr one }

  -- No `<` or `>` follows the digits

  angle_byte : (c : ℕ) → ends_token c ≡ false → (c == 60 || c == 62) ≡ false
  angle_byte c h = grind (arith, nat_tests)

  record NoAngle (cs : List ℕ) : Type 0 where
    here : is_angle cs ≡ false
    joined : is_angle (behind_joined cs) ≡ false

  plain_angle : (c : ℕ) (cs : List ℕ) → (c == 60 || c == 62) ≡ false → joined_length (c ∷ cs) ≡ 0 → NoAngle (c ∷ cs)
  unfolding is_first
  plain_angle c cs h none = record { here = h; joined = ap (λ n. is_angle (drop n (c ∷ cs))) none ∙ h }

  digits_angle : (r' : List ℕ) → Ending r' → NoAngle (drop (run is_digit (v ++ r')) (v ++ r'))
  unfolding is_first
  digits_angle r' e =
      let s = split is_digit v in
      let whole : v ++ r' ≡ s.front ++ (s.back ++ r') = ap (λ t. t ++ r') s.is ∙ append_assoc s.front s.back r' in
      let long = run_front is_digit s.front (s.back ++ r') s.all (first_behind is_digit s.back r' s.none (edge_none is_digit digit_bare r' (ending_joined r' e))) in
      let behind : drop (run is_digit (v ++ r')) (v ++ r') ≡ s.back ++ r' =
      ap (λ t. drop (run is_digit t) t) whole ∙ ap (λ n. drop n (s.front ++ (s.back ++ r'))) long ∙ drop_at s.front (s.back ++ r') (length s.front) refl in
      subst NoAngle (sym behind) (go s.front s.back s.is (all_weaker is_digit is_bare digit_bare s.front s.all))
    where
      go : (front back : List ℕ) → v ≡ front ++ back → list_all is_bare front ≡ true → NoAngle (back ++ r')
      go front [] is all = subst NoAngle (sym e.is) (plain_angle e.byte e.rest e.angle (not_joined e.byte e.rest e.backslash))
      go front (c ∷ back) is all = let at = byte front c back is all in plain_angle c (back ++ r') (angle_byte c at.no_token) (at.none r')

  -- An assignment begins both texts or neither

  no_assignment : (r' : List ℕ) → Ending r' → is_assignment (v ++ r) ≡ false → is_assignment (v ++ r') ≡ false
  unfolding is_assignment name_length is_first
  no_assignment r' e h = go v refl
    where
      go : (w : List ℕ) → w ≡ v → is_assignment (v ++ r') ≡ false
      go [] is =
          let whole : v ++ r' ≡ e.byte ∷ e.rest = ap (λ t. t ++ r') (sym is) ∙ e.is in
          ap is_assignment whole ∙ ap (λ n. not (n == 0) && is_first (λ c. c == 61) (drop n (e.byte ∷ e.rest))) (cond-false _ _ _ (no_name e.byte e.ends))
        where
          no_name : (c : ℕ) → ends_token c ≡ true → is_name_start c ≡ false
          no_name c h = grind (arith, nat_tests)
      go (a ∷ w) is = by_bool (is_name_start a)
          (λ yes.
          let s = split is_name_byte v in
          let front = s.front in
          let back = s.back in
          let none' = first_behind is_name_byte back r' s.none (edge_none is_name_byte name_bare r' (ending_joined r' e)) in
          let none = first_behind is_name_byte back r s.none (edge_none is_name_byte name_bare r ends) in
          let long : (cs : List ℕ) → is_first is_name_byte (back ++ cs) ≡ false → name_length (v ++ cs) ≡ length front = λ cs k.
          ap (λ t. name_length (t ++ cs)) (sym is) ∙ cond-true _ _ _ yes ∙ ap (λ t. run is_name_byte (t ++ cs)) (is ∙ s.is)
          ∙ ap (run is_name_byte) (append_assoc front back cs) ∙ run_front is_name_byte front (back ++ cs) s.all k in
          let behind : (cs : List ℕ) → drop (length front) (v ++ cs) ≡ back ++ cs = λ cs.
          ap (λ t. drop (length front) (t ++ cs)) s.is ∙ ap (drop (length front)) (append_assoc front back cs) ∙ drop_at front (back ++ cs) (length front) refl in
          let form : (cs : List ℕ) → is_first is_name_byte (back ++ cs) ≡ false → is_assignment (v ++ cs) ≡ (not (length front == 0) && is_first (λ c. c == 61) (back ++ cs)) = λ cs k.
          ap (λ n. not (n == 0) && is_first (λ c. c == 61) (drop n (v ++ cs))) (long cs k) ∙ ap (λ t. not (length front == 0) && is_first (λ c. c == 61) t) (behind cs) in
          form r' none' ∙ equals front back (sym (form r none) ∙ h))
          (λ no. ap (λ t. is_assignment (t ++ r')) (sym is) ∙ ap (λ n. not (n == 0) && is_first (λ c. c == 61) (drop n (a ∷ (w ++ r')))) (cond-false _ _ _ no))
        where
          both_false : (t u : Bool) → u ≡ false → (t && u) ≡ false
          both_false true u h = h
          both_false false u h = refl

          equals : (front back : List ℕ) → (not (length front == 0) && is_first (λ c. c == 61) (back ++ r)) ≡ false → (not (length front == 0) && is_first (λ c. c == 61) (back ++ r')) ≡ false
          equals front [] h = both_false (not (length front == 0)) _ (ap (is_first (λ c. c == 61)) e.is ∙ e.equals)
          equals front (c ∷ back) h = h

  -- The lead

  number_other : (rest : List ℕ) (o : Option (Operator × ℕ)) → is_word (number_lead rest o) ≡ false
  unfolding number_lead
  number_other rest None = refl
  number_other rest (Some found) = go (is_split rest found.1)
    where
      go : (t : Bool) → is_word (if t then lead.LeftOut form.Continuation else lead.Number) ≡ false
      go true = refl
      go false = refl

  reserved_other : (cs : List ℕ) (o : Reserved) → is_word (reserved_lead cs o) ≡ false
  unfolding reserved_lead
  reserved_other cs word.Bang = go (is_first is_parenthesis (drop 1 cs)) (is_first is_parenthesis (behind_joined (drop 1 cs)))
    where
      go : (t u : Bool) → is_word (if t then lead.LeftOut form.BangParenthesis else (if u then lead.LeftOut form.Continuation else lead.Reserved word.Bang)) ≡ false
      go true u = refl
      go false true = refl
      go false false = refl
  reserved_other cs o = refl

  -- the last of four is the word
  last_word : (s t u : Bool) (x y z w : Lead) → is_word x ≡ false → is_word y ≡ false → is_word z ≡ false → (if s then x else (if t then y else (if u then z else w))) ≡ lead.Word → (u ≡ false) × (w ≡ lead.Word)
  last_word true t u x y z w h k l is = absurd (true≢false (sym (ap is_word is) ∙ h))
  last_word false true u x y z w h k l is = absurd (true≢false (sym (ap is_word is) ∙ k))
  last_word false false true x y z w h k l is = absurd (true≢false (sym (ap is_word is) ∙ l))
  last_word false false false x y z w h k l is = (refl, is)

  -- no definition is there
  no_definition : (r' : List ℕ) → IsBehindWord r' → (w : List ℕ) → (w ≡ v) ⊎ (w ≡ []) → is_definition (v ++ r') 0 w ≡ false
  unfolding is_definition blanks is_first
  no_definition r' h w (inr none) = ap (λ t. is_name t && is_first is_parenthesis (drop (blanks false (v ++ r') (0 + length t)) (v ++ r'))) none
  no_definition r' h w (inl whole) =
      let cs = v ++ r' in
      let zero_more : 0 + length v ≡ length v = omega arith in
      let behind : drop (length v) cs ≡ r' = drop_at v r' (length v) refl in
      let there : drop (blanks false cs (0 + length w)) cs ≡ drop (blank_length false r') r' =
      ap (λ t. drop (blanks false cs (0 + length t)) cs) whole ∙ ap (λ n. drop (n + blank_length false (drop n cs)) cs) zero_more
      ∙ ap (λ t. drop (length v + blank_length false t) cs) behind ∙ sym (drop-drop (blank_length false r') (length v) cs) ∙ ap (drop (blank_length false r')) behind in
      ap (λ t. is_name w && is_first is_parenthesis t) there ∙ ap (λ t. is_name w && t) h.opens_nothing ∙ and-false (is_name w)

  first_word : (r' : List ℕ) → IsBehindWord r' → (w : List ℕ) (o : Option Reserved) → (w ≡ v) ⊎ (w ≡ []) → first_lead (v ++ r) 0 w o ≡ lead.Word → first_lead (v ++ r') 0 w o ≡ lead.Word
  unfolding first_lead
  first_word r' h w (Some o) which is = absurd (true≢false (sym (ap is_word is) ∙ reserved_other (v ++ r) o))
  first_word r' h w None which is = cond-false _ _ _ (no_definition r' h w which) ∙ go (is_definition (v ++ r) 0 w) is
    where
      go : (t : Bool) → (if t then lead.Definition else name_lead (entry_of left_out_names w)) ≡ lead.Word → name_lead (entry_of left_out_names w) ≡ lead.Word
      go true k = absurd (true≢false (sym (ap is_word k)))
      go false k = k

  word_same : (g : Stage) (r' : List ℕ) → IsBehindWord r' → (w : List ℕ) → (w ≡ v) ⊎ (w ≡ []) → word_lead (v ++ r) g 0 w ≡ lead.Word → word_lead (v ++ r') g 0 w ≡ lead.Word
  unfolding word_lead
  word_same First r' h w which is = first_word r' h w (entry_of reserved_words w) which is
  word_same Prefixed r' h w which is = is
  word_same (Named d) r' h w which is = is

  other_same : (g : Stage) (r' : List ℕ) → IsBehindWord r' → other_lead (v ++ r) g 0 ≡ lead.Word → other_lead (v ++ r') g 0 ≡ lead.Word
  unfolding other_lead
  other_same g r' h is =
      let e = ending r' h in
      let cs = v ++ r in
      let cs' = v ++ r' in
      let n = run is_digit cs in
      let n' = run is_digit cs' in
      let source = last_word (not (n == 0) && is_angle (drop n cs)) (not (n == 0) && is_angle (behind_joined (drop n cs))) (not (is_named g) && is_assignment cs)
      (number_lead (drop n cs) (operator_of (drop n cs))) (lead.LeftOut form.Continuation) lead.Assignment (word_lead cs g 0 (bare_word cs 0)) (number_other (drop n cs) (operator_of (drop n cs))) refl refl is in
      let angle = digits_angle r' e in
      let bare = bare_same r' e in
      let assigned : (not (is_named g) && is_assignment cs') ≡ false = go (not (is_named g)) source.0 (no_assignment r' e) in
      cond-false _ _ _ (ap (λ t. not (n' == 0) && t) angle.here ∙ and-false (not (n' == 0)))
      ∙ cond-false _ _ _ (ap (λ t. not (n' == 0) && t) angle.joined ∙ and-false (not (n' == 0)))
      ∙ cond-false _ _ _ assigned ∙ word_same g r' h (bare_word cs' 0) bare.either (ap (word_lead cs g 0) bare.same ∙ source.1)
    where
      go : (t : Bool) {x y : Bool} → (t && x) ≡ false → (x ≡ false → y ≡ false) → (t && y) ≡ false
      go true h k = k h
      go false h k = refl

  -- The first byte

  operator_byte : (c : ℕ) → ends_token c ≡ false → is_operator_byte c ≡ false
  operator_byte c h = grind (arith, nat_tests)

  newline_byte : (c : ℕ) → ends_token c ≡ false → is_newline c ≡ false
  newline_byte c h = grind (arith, nat_tests)

  blank_byte : (c : ℕ) → ends_token c ≡ false → is_blank c ≡ false
  blank_byte c h = grind (arith, nat_tests)

  lead_same : (g : Stage) (a : ℕ) (w : List ℕ) → v ≡ a ∷ w → ends_token a ≡ false → (a == 35) ≡ false → (r' : List ℕ) → IsBehindWord r' → lead_at (v ++ r) g 0 ≡ lead.Word → lead_at (v ++ r') g 0 ≡ lead.Word
  lead_same g a w is token comment r' h word =
      let e = ending r' h in
      let by : (cs : List ℕ) → lead_at (v ++ cs) g 0 ≡ (if is_last_backquote (a ∷ (w ++ cs)) then lead.Backquote else other_lead (v ++ cs) g 0) = λ cs.
      ap (λ t. lead_at (t ++ cs) g 0) is ∙ lead_inside g a (w ++ cs) (no_operator a (w ++ cs) (operator_byte a token))
      ∙ cond-false _ _ _ (newline_byte a token) ∙ cond-false _ _ _ comment ∙ ap (λ t. if is_last_backquote (a ∷ (w ++ cs)) then lead.Backquote else other_lead (t ++ cs) g 0) (sym is) in
      by r' ∙ cond-false _ _ _ (no_last a w r' e) ∙ other_same g r' h (go (is_last_backquote (a ∷ (w ++ r))) (sym (by r) ∙ word))
    where
      go : (t : Bool) → (if t then lead.Backquote else other_lead (v ++ r) g 0) ≡ lead.Word → other_lead (v ++ r) g 0 ≡ lead.Word
      go true k = absurd (true≢false (sym (ap is_word k)))
      go false k = k

  at_token : (a : ℕ) (w : List ℕ) → v ≡ a ∷ w → (a == 35) ≡ false → Beyond a w r → (rest : List ℕ) → blank_length false (v ++ rest) ≡ 0
  unfolding blank_length is_first
  at_token a w is comment at rest =
      let none : gap_length (a ∷ (w ++ rest)) ≡ 0 = no_gap a (w ++ rest) (blank_byte a at.no_token) (at.none rest) in
      ap (λ t. blank_length false (t ++ rest)) is
      ∙ ap (λ n. if (is_first (λ c. c == 35) (drop n (a ∷ (w ++ rest))) && true) then n + run (λ c. not (is_newline c)) (drop n (a ∷ (w ++ rest))) else n) none
      ∙ cond-false _ _ _ (ap (λ t. t && true) comment)

-- The contexts of whole words

record IsWordContext (x : Context) : Type 0 where
  word : x.site ≡ site.Word
  strip : x.strip ≡ false

stage_word : (b : List ℕ) (g : Stage) (i : ℕ) → IsWordContext (in_stage b g i)
unfolding in_stage in_operand
stage_word b First i = record { word = refl; strip = refl }
stage_word b Prefixed i = record { word = refl; strip = refl }
stage_word b (Named false) i = record { word = refl; strip = refl }
stage_word b (Named true) i = go (is_assignment (drop i b)) (name_end b i + 1)
  where
    go : (t : Bool) (j : ℕ) → IsWordContext (if t then in_value j else in_word i)
    go true j = record { word = refl; strip = refl }
    go false j = record { word = refl; strip = refl }

role_word : (b : List ℕ) (role : Role) (i : ℕ) → IsWordContext (context_of role b i)
unfolding context_of
role_word b (Field g) i = stage_word b g i
role_word b Unsplit i = record { word = refl; strip = refl }
role_word b Value i = record { word = refl; strip = refl }

-- what the text of a word is before what may follow a word
copied_by : {limit : ℕ} {b : List ℕ} {x : Context} {s u : Spot} {ps : List Part} (stage : Stage) (v r : List ℕ) → IsWordContext x → ReadsParts limit b x 0 s u ps → drop s.at b ≡ v ++ r → u.at ≡ s.at + length v
    → words.ends_joined r ≡ true → gap_length (drop s.at b) ≡ 0 → lead_at b stage s.at ≡ lead.Word → declares b s.at ≡ is_declaring v → TokenOf stage v
unfolding words.token declares is_first
copied_by {b = b} {s = s} stage [] r x parts there end ends settled word names =
    let c = stage_word b stage s.at in
    absurd (word_goes b stage s.at word settled (ap (λ t. (words.sign_of (in_stage b stage s.at) 0 s.at t).0) there ∙ ap (λ (f : Sign × ℕ). f.0) (ends_stop (in_stage b stage s.at) 0 s.at r c.word c.strip ends)))
copied_by {limit = limit} {b = b} {s = s} {u = u} stage (a ∷ w) r x parts there end ends settled word names =
    let v = a ∷ w in
    let byte : Byte v r = λ front c back is all.
    beyond parts x.word x.strip front c back r (there ∙ ap (λ t. t ++ r) is ∙ append_assoc front (c ∷ back) r) all
    (end ∙ ap (λ t. s.at + length t) is ∙ ap (λ n. s.at + n) (length-append front (c ∷ back))) in
    let at = byte [] a w refl refl in
    let comment : (a == 35) ≡ false = sym (ap (is_first (λ c. c == 35)) there) ∙ lead_is_no_sign is_word b stage s.at refl (ap is_word word) in
    let source : lead_at (v ++ r) stage 0 ≡ lead.Word = ap (λ t. lead_at t stage 0) (sym there) ∙ sym (lead_front b stage s.at) ∙ word in
    record {
      first = ap (λ t. not t && not (a == 35)) at.no_token ∙ ap not comment;
      at_token = λ rest h. at_token v r byte ends a w refl comment at rest;
      is_lead = λ b' rest i e h. lead_front b' stage i ∙ ap (λ t. lead_at t stage 0) e ∙ lead_same v r byte ends stage a w refl at.no_token comment rest h source;
      declaring = λ b' rest i e h.
          let same : bare_word b' i ≡ bare_word b s.at =
          bare_front b' i ∙ ap (λ t. bare_word t 0) e ∙ (bare_same v r byte ends rest (ending rest h)).same ∙ ap (λ t. bare_word t 0) (sym there) ∙ sym (bare_front b s.at) in
          ap is_declaring same ∙ names;
    }

pub token_copied : (limit : ℕ) (b : List ℕ) (role : Role) (stage : Stage) (s u : Spot) (w : Word) → gap_length (drop s.at b) ≡ 0
    → lead_at b stage s.at ≡ lead.Word → ReadsWord limit b (context_of role b s.at) s u w → TokenOf stage (text_of b w.span)
token_copied limit b role stage s u w settled word reads =
    let p = word_parts reads in
    let x = role_word b role s.at in
    let r = drop u.at b in
    let inside : s.at < length b = text_inside b stage s.at (ap is_end word) in
    let forward = parts_forward p.2 in
    let within = (parts_inside p.2 (omega arith)).0 in
    let ends = parts_end x.word p.2 in
    let v = text_of b (span s.at u.at) in
    let there : drop s.at b ≡ v ++ r = drop_split b s.at u.at forward in
    let size : length v ≡ u.at - s.at = length-take-le (u.at - s.at) (drop s.at b) (let k = length-drop s.at b in omega arith) in
    let end : u.at ≡ s.at + length v = omega arith in
    let same : text_of b w.span ≡ v = ap (λ (t : Word). text_of b t.span) p.1 in
    subst (TokenOf stage) (sym same) (copied_by stage v r x p.2 there end ends settled word (declares_read x.word x.strip reads ∙ ap is_declaring same))
