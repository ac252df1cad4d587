-- What a refusal points at is what it is about: by the checks of the judge, line by line, and of the file's end.
use Prim.Native.Nat.{ℕ, zero, suc, ◌+◌, ◌-◌, ◌≤◌, ◌<◌}
use mathlib.Core.Path.{◌≡◌, refl, sym, ap, subst, ◌∙◌}
use mathlib.Core.Logic.{◌⊎◌, inl, inr}
use mathlib.Core.Bool.{Bool, true, false, cond}
use mathlib.Core.List.{List, [], ◌∷◌, ◌++◌, append-nil, append_assoc}
use native.Mathlib.Omega.{arith}
use borrow.Author.Tests.{leb-false, le-leb}
use lib.Dec.{leb}
use lib.ListN.{length, get_or, take, drop, length-append, take-append-drop}
use lib.Seq.{take_at, drop_at, get_or_at, drop-drop}
use Rattle.rules.specs.Answers.{refusal_number}
use Rattle.rules.specs.Demands.{is_data}
use Rattle.rules.specs.Units.{sample_places, sample_limit, bound_places, bound_limit}
use Rattle.rules.specs.Reading.{read}
use Rattle.rules.specs.Reading.Lines.{line_limit, permitted, hash, blank, in_word, number_byte, every, run, after, starts, lines_of, words_of}
use Rattle.rules.specs.Reading.Numerals.{digits}
use Rattle.rules.specs.Reading.Numbers.{number_of}
use Rattle.rules.specs.Reading.Items.{named}
use Rattle.rules.specs.Reading.Grammar.{Lines}
use Rattle.rules.specs.Reading.Contents.{form_of, word_form, keyword_form, keyword_of, parameters, content_by, content_of, title_of, bounds_of, bounds_at, row_of, samples_on, size_of}
use Rattle.rules.specs.Reading.Judge.{State, start, judge, refuse, unless, take_in, byte_fault, order_fault, head_fault, end_fault}
use Rattle.rules.specs.declared.Bounds.{Bounds}
use Rattle.rules.specs.declared.Form.{Form}
use Rattle.rules.specs.declared.Form.TheVariants.{Idle, Keyed, Data, Neither}
use Rattle.rules.specs.declared.Item.{Item}
use Rattle.rules.specs.declared.Item.TheVariants.{OfLower, OfUpper, OfRow}
use Rattle.rules.specs.declared.Keyword.{Keyword}
use Rattle.rules.specs.declared.Keyword.TheVariants.{ATitle, ALower, AnUpper, ASize}
use Rattle.rules.specs.declared.Kind.{Kind}
use Rattle.rules.specs.declared.Refusal.{Refusal}
use Rattle.rules.specs.declared.Refusal.TheVariants.{LineTooLong, ByteNotPermitted, NeitherDataNorKeyword, KeywordAfterData, KeywordRepeated, ParametersWrong, SizeOutOfRange, DomainNumberWrong, NoSize, LowerNotBelowUpper, DomainTooWide, DomainsDiffer, TooLittleRoom, TooManyRows, NotThreeNumbers, SampleBeyond, SampleTooFine, TooFewRows, HalfADomain}
use Rattle.rules.proofs.Tests.{no_true, no-some, need-none}
use Rattle.rules.proofs.Reading.Runs.{run-after, run-every, after-stops}
use Rattle.rules.proofs.Reading.Wordings.{named-known, form-keyword}
use Rattle.rules.proofs.Reading.Order.{final}
use Rattle.rules.proofs.Reading.Refusals.{Stopped, beginning, at-line, at-end, refused-first}
use Rattle.scan.proofs.Runs.{drop-to-end}
use Rattle.text.specs.WordsFrom.{word_start, word_end}
use Rattle.pointing.specs.Pointing.{part, end_spot, word_spot, byte_spot, is_value, right, first_wrong, aim_of, parameter_spot, row_spot, aimed_in, spot_in, pointed}
use Rattle.pointing.specs.declared.aims.Aim.{Aim}
use Rattle.pointing.specs.declared.aims.Aim.TheVariants as A
use Rattle.pointing.specs.declared.spots.Spot.{Spot}
use Rattle.pointing.specs.declared.words.Wanted.TheVariants as W
use Rattle.pointing.proofs.Inside.{start-inside}
use Rattle.pointing.proofs.OnItsLine.{line_of, line_start, OnItsLine, numbered, last-ends, pointed-so, on-its-line}
use Rattle.pointing.proofs.Meant.{Parts, FileEnd, FirstIs, Forbidden, Unknown, unknown-word, blanks-alone, AKeyword, All, OneOf, Amiss, is_number, has_value, ParametersAmiss, of-title, of-lower, of-upper, of_size, OutOfRange, NoBound, WholeRow, RowOrEnd, whole_row, file-end, Meant}
use Rattle.pointing.proofs.WordPlaces.{at, rest-parts, Between, start_between, start-words, Step, step, spot-none, none_ahead, first-passed}
use Rattle.pointing.proofs.Falls.{amiss, one_of}
use Rattle.pointing.proofs.Wrongs.{none_is, need-is, head-is, first-is, unless-is, taken-wrong, says-wrong, wrong-same, quoted-wrong, unquoted, NoThree, by_form, by-beyond, by-finer, values-wrong, NoSizeIn, by_digits, by-range, size-wrong}
use Rattle.std.specs.Prelude.{Err, None, Option, Some}
use Rattle.rules.specs.declared.NumberFault.TheVariants.{Beyond, Finer}
use Rattle.rules.specs.Results.{Number, refused_on}

no_data : (f : Form) → is_data f ≡ false → f ≡ Data → ⊥
no_data f h e = no_true (ap is_data (sym e) ∙ h)

-- ---- a line that the judge refuses; it begins at place p of the file

module _ (file : List ℕ) (p : ℕ) (l : List ℕ) where
  -- a refusal with the spot that its number gives in the line
  abbrev Is : Refusal → Type 0
  Is r = Meant r file p l (at p (spot_in (refusal_number r) l))

  too_long : leb (length l) line_limit ≡ false → Is LineTooLong
  unfolding spot_in
  too_long long =
      let n : line_limit < length l = leb-false (length l) line_limit long in
      rw long (record { longer = n; parts = rest-parts p l line_limit (omega (arith, n)) })

  module _ (short : leb (length l) line_limit ≡ true) where
    -- by its aim, in a line of at most 250 bytes
    to : (r : Refusal) (aim : Aim) → aim_of (refusal_number r) ≡ aim → Meant r file p l (at p (aimed_in aim l)) → Is r
    unfolding spot_in
    to r aim e h = rw (short, e) h

    forbidden : every permitted l ≡ false → Is ByteNotPermitted
    unfolding aim_of refusal_number aimed_in starts
    forbidden some-not = to ByteNotPermitted A.Byte refl (by (after permitted l) refl (after-stops permitted l))
      where
        run-whole : after permitted l ≡ [] → every permitted l ≡ true
        run-whole e =
            let whole : l ≡ run permitted l = run-after permitted l ∙ ap (λ (y : List ℕ). run permitted l ++ y) e ∙ append-nil (run permitted l) in
            ap (every permitted) whole ∙ run-every permitted l

        by : (x : List ℕ) → after permitted l ≡ x → starts permitted x ≡ false → Forbidden p l (at p (byte_spot l))
        by [] e s = absurd (no_true (sym (run-whole e) ∙ some-not))
        by (b ∷ rest) e s =
            let whole : l ≡ run permitted l ++ (b ∷ rest) = run-after permitted l ∙ ap (λ (y : List ℕ). run permitted l ++ y) e in
            record {
              before = run permitted l;
              byte = b;
              after = rest;
              parts = record { line = whole; place = refl; long = omega (arith, ap length whole, length-append (run permitted l) (b ∷ rest)) };
              not-permitted = s;
              first = run-every permitted l;
            }

    -- ---- the first word

    -- where it ends
    abbrev q : ℕ
    q = word_end l 0

    first_word : (w : List ℕ) (ws : List (List ℕ)) → words_of l ≡ w ∷ ws → Step l 0 w ws
    first_word w ws e = step l 0 w ws (start_between l) e

    a-keyword : (k : Keyword) → form_of l ≡ Keyed k → AKeyword p l (at p (word_spot l 0))
    a-keyword k form =
        let first = form-keyword l k form in
        (first_word (named k) first.0 first.1).is_word _ p (none_ahead l, (k, refl))

    after-data : (k : Keyword) → form_of l ≡ Keyed k → Is KeywordAfterData
    unfolding aim_of refusal_number aimed_in
    after-data k form = to KeywordAfterData A.FirstWord refl (a-keyword k form)

    repeated : (k : Keyword) → form_of l ≡ Keyed k → Is KeywordRepeated
    unfolding aim_of refusal_number aimed_in
    repeated k form = to KeywordRepeated A.FirstWord refl (a-keyword k form)

    unknown-first : (w : List ℕ) (ws : List (List ℕ)) → words_of l ≡ w ∷ ws → word_form (w ∷ ws) ≡ Neither → Unknown p l (at p (word_spot l 0))
    unfolding word_form
    unknown-first w ws e h = by (starts number_byte w) refl (keyword_of w) refl h
      where
        by : (t : Bool) → starts number_byte w ≡ t → (o : Option Keyword) → keyword_of w ≡ o → cond t Data (keyword_form o) ≡ Neither → Unknown p l (at p (word_spot l 0))
        by true s o f g = let z : ◌≡◌ {A = ℕ} 0 1 = cc in absurd (omega arith)
        by false s (Some k) f g = let z : ◌≡◌ {A = ℕ} 0 1 = cc in absurd (omega arith)
        by false s None f g =
            unknown-word ((first_word w ws e).is_word _ p (none_ahead l, s, λ k so. no-some k (sym (named-known k).known ∙ ap keyword_of (sym so) ∙ f)))

    neither-words : (x : List ℕ) → form_of x ≡ Neither → word_form (words_of x) ≡ Neither
    unfolding form_of
    neither-words [] h = let z : ◌≡◌ {A = ℕ} 0 1 = cc in absurd (omega arith)
    neither-words (b ∷ rest) h = by (hash b) h
      where
        by : (t : Bool) → cond t Idle (word_form (words_of (b ∷ rest))) ≡ Neither → word_form (words_of (b ∷ rest)) ≡ Neither
        by true g = let z : ◌≡◌ {A = ℕ} 0 1 = cc in absurd (omega arith)
        by false g = g

    neither : form_of l ≡ Neither → Is NeitherDataNorKeyword
    unfolding aim_of refusal_number aimed_in
    neither form = to NeitherDataNorKeyword A.FirstWord refl (by (words_of l) refl)
      where
        by : (ws : List (List ℕ)) → words_of l ≡ ws → Unknown p l (at p (word_spot l 0))
        by [] e = blanks-alone e (spot-none p l 0 (omega arith) e)
        by (w ∷ ws) e = unknown-first w ws e (ap word_form (sym e) ∙ neither-words l form)

    -- ---- a keyword's parameters: the words past the first one

    module _ (k : Keyword) (form : form_of l ≡ Keyed k) where
      first-is-keyword : FirstIs k l
      first-is-keyword = form-keyword l k form

      first_step : Step l 0 (named k) first-is-keyword.0
      first_step = first_word (named k) first-is-keyword.0 first-is-keyword.1

      -- the parameters are the words past its end
      parameters-past : parameters (words_of l) ≡ words_of (drop q l)
      unfolding parameters
      parameters-past = rw first-is-keyword.1 (sym first_step.next)

      one-passed : length (words_of (take q l)) ≡ 1
      one-passed = ap length (first-passed l (named k) first-is-keyword.0 first_step)

      parameters-wrong : ParametersAmiss p l (at p (parameter_spot (Keyed k) l q)) → Is ParametersWrong
      unfolding aim_of refusal_number aimed_in
      parameters-wrong h = to ParametersWrong A.Parameters refl (subst (λ (f : Form). ParametersAmiss p l (at p (parameter_spot f l q))) (sym form) h)

    title-is : form_of l ≡ Keyed ATitle → (b : ℕ) (r : Refusal) → title_of b l ≡ Err r → Is r
    unfolding title_of
    title-is form b r g = subst Is (quoted-wrong _ _ r g) (parameters-wrong ATitle form (of-title (first-is-keyword ATitle form) (record {
      before = take (word_start l q) l;
      text = drop (word_start l q) l;
      parts = rest-parts p l (word_start l q) (start-inside l q inside);
      keyword = start-words l q inside ∙ first-passed l (named ATitle) _ (first_step ATitle form);
      from-word = ap (starts blank) text_so ∙ after-stops blank _;
      unquoted = λ title trail t s so. unquoted _ _ r g title trail t s (sym text_so ∙ so);
    })))
      where
        inside : q ≤ length l
        inside = (first_step ATitle form).between.inside

        text_so : drop (word_start l q) l ≡ after blank (after in_word (after blank l))
        text_so = drop-to-end blank l q ∙ ap (after blank) (drop-to-end in_word l (word_start l 0) ∙ ap (after in_word) (drop-to-end blank l 0))

    bound-form : (w : List ℕ) → right W.BoundForm w ≡ is_number bound_places bound_limit w
    unfolding right
    bound-form w = refl

    bound-value : (w : List ℕ) → right W.BoundValue w ≡ has_value bound_places bound_limit w
    unfolding right
    bound-value w = refl

    bounds-is : (k : Keyword) (form : form_of l ≡ Keyed k) (item : Bounds → Item) (r : Refusal) → (FirstIs ALower l ⊎ FirstIs AnUpper l)
        → (Amiss (is_number bound_places bound_limit) 1 3 p l (at p (first_wrong W.BoundForm 3 l q)) → ParametersAmiss p l (at p (parameter_spot (Keyed k) l q)))
        → bounds_of item (parameters (words_of l)) ≡ Err r → Is r
    unfolding bounds_of aim_of refusal_number aimed_in
    bounds-is k form item r side made g =
        by (values-wrong ParametersWrong DomainNumberWrong DomainNumberWrong bound_places bound_limit r (λ x y z. item (bounds_at x y z)) (words_of (drop q l)) (rw (parameters-past k form) at g))
      where
        between : Between l q
        between = (first_step k form).between

        no_bound : (vs : List (List ℕ)) (w : List ℕ) (us : List (List ℕ)) → words_of (drop q l) ≡ vs ++ (w ∷ us) → length vs < 3 → All (has_value bound_places bound_limit) vs
            → has_value bound_places bound_limit w ≡ false → NoBound w → Is DomainNumberWrong
        no_bound vs w us so n all wrong off =
            to DomainNumberWrong A.BoundValue refl (side, one_of (has_value bound_places bound_limit) W.BoundValue bound-value 1 3 p l q between (one-passed k form) NoBound vs w us so n all wrong off)

        by : NoThree ParametersWrong DomainNumberWrong DomainNumberWrong bound_places bound_limit (words_of (drop q l)) r → Is r
        by (by_form e not-all) = subst Is e (parameters-wrong k form (made (amiss (is_number bound_places bound_limit) W.BoundForm bound-form 1 3 p l q between (one-passed k form) not-all)))
        by (by-beyond vs w us e so n all off) = subst Is e (no_bound vs w us so n all (ap is_value off) (inl off))
        by (by-finer vs w us e so n all off) = subst Is e (no_bound vs w us so n all (ap is_value off) (inr off))

    size_is : (k : Kind) (form : form_of l ≡ Keyed (ASize k)) (r : Refusal) → size_of k (parameters (words_of l)) ≡ Err r → Is r
    unfolding aim_of refusal_number aimed_in right
    size_is k form r g = by (size-wrong k (words_of (drop q l)) r (rw (parameters-past (ASize k) form) at g))
      where
        first : FirstIs (ASize k) l
        first = first-is-keyword (ASize k) form

        st : Step l 0 (named (ASize k)) first.0
        st = first_step (ASize k) form

        by : NoSizeIn k (words_of (drop q l)) r → Is r
        by (by_digits e not-all) = subst Is e (parameters-wrong (ASize k) form (of_size k first (amiss digits W.Digits (λ w. refl) 1 1 p l q st.between (one-passed (ASize k) form) not-all)))
        by (by-range w e so d i) = subst Is e (to SizeOutOfRange A.SecondWord refl (
          ap length first.1 ∙ ap (λ (ws : List (List ℕ)). suc (length ws)) (sym st.next ∙ so),
          (step l q w [] st.between so).is_word OutOfRange p (k, first-passed l _ _ st, d, i),
        ))

    -- ---- a row's samples

    sample-form : (w : List ℕ) → right W.SampleForm w ≡ is_number sample_places sample_limit w
    unfolding right
    sample-form w = refl

    sample-value : (w : List ℕ) → right W.SampleValue w ≡ has_value sample_places sample_limit w
    unfolding right
    sample-value w = refl

    samples-is : (r : Refusal) → samples_on (words_of l) ≡ Err r → Is r
    unfolding samples_on aim_of refusal_number aimed_in
    samples-is r g = by (values-wrong NotThreeNumbers SampleBeyond SampleTooFine sample_places sample_limit r (λ x y z. OfRow (row_of x y z)) (words_of l) g)
      where
        none_passed : length (words_of (take 0 l)) ≡ 0
        none_passed = ap length (none_ahead l)

        number : List ℕ → Number
        number = number_of sample_places sample_limit

        no-sample : (found : Number) → is_value found ≡ false → (vs : List (List ℕ)) (w : List ℕ) (us : List (List ℕ)) → words_of l ≡ vs ++ (w ∷ us) → length vs < 3
            → All (has_value sample_places sample_limit) vs → number w ≡ found
            → OneOf (has_value sample_places sample_limit) 0 3 (λ v. number v ≡ found) p l (at p (first_wrong W.SampleValue 3 l 0))
        no-sample found wrong vs w us so n all off =
            one_of (has_value sample_places sample_limit) W.SampleValue sample-value 0 3 p l 0 (start_between l) none_passed (λ v. number v ≡ found) vs w us so n all (ap is_value off ∙ wrong) off

        by : NoThree NotThreeNumbers SampleBeyond SampleTooFine sample_places sample_limit (words_of l) r → Is r
        by (by_form e not-all) = subst Is e (to NotThreeNumbers A.SampleForm refl (amiss (is_number sample_places sample_limit) W.SampleForm sample-form 0 3 p l 0 (start_between l) none_passed not-all))
        by (by-beyond vs w us e so n all off) = subst Is e (to SampleBeyond A.SampleValue refl (no-sample (Err Beyond) refl vs w us so n all off))
        by (by-finer vs w us e so n all off) = subst Is e (to SampleTooFine A.SampleValue refl (no-sample (Err Finer) refl vs w us so n all off))

    -- ---- what the line says

    content-is : (b : ℕ) (r : Refusal) → content_of b l ≡ Err r → Is r
    unfolding content_by
    content-is b r g = by (form_of l) refl g
      where
        by : (f : Form) → form_of l ≡ f → content_by f b l ≡ Err r → Is r
        by Idle e h = absurd (says-wrong _ r h)
        by (Keyed ATitle) e h = title-is e b r h
        by (Keyed ALower) e h = bounds-is ALower e OfLower r (inl (first-is-keyword ALower e)) (of-lower (first-is-keyword ALower e)) h
        by (Keyed AnUpper) e h = bounds-is AnUpper e OfUpper r (inr (first-is-keyword AnUpper e)) (of-upper (first-is-keyword AnUpper e)) h
        by (Keyed (ASize k)) e h = size_is k e r h
        by Data e h = samples-is r h
        by Neither e h = subst Is (wrong-same _ r h) (neither e)

    -- ---- where it stands among the others: a whole row, or the file's end

    row_is : RowOrEnd file p l (at p (row_spot l)) → (r : Refusal) → aim_of (refusal_number r) ≡ A.RowOrEnd → RowOrEnd file p l (at p (spot_in (refusal_number r) l))
    unfolding spot_in aimed_in
    row_is h r e = rw (short, e) h

    head-means : RowOrEnd file p l (at p (row_spot l)) → (places : ℕ) (st : State) (r : Refusal) → head_fault places st ≡ Some r → Is r
    unfolding aim_of refusal_number
    head-means h places st r =
        head-is Is places st (row_is h NoSize refl) (row_is h HalfADomain refl) (row_is h LowerNotBelowUpper refl) (row_is h DomainTooWide refl) (row_is h DomainsDiffer refl) (row_is h TooLittleRoom refl)

    whole : form_of l ≡ Data → WholeRow p l (at p (row_spot l))
    whole form = rw form (record { row = form; parts = rest-parts p l 0 (omega arith) })

    too_many : form_of l ≡ Data → Is TooManyRows
    unfolding aim_of refusal_number aimed_in
    too_many form = to TooManyRows A.RowOrEnd refl (whole form)

    order_is : (places : ℕ) (st : State) (r : Refusal) → order_fault places st (form_of l) ≡ Some r → Is r
    unfolding order_fault aim_of refusal_number
    order_is places st r g = by (form_of l) refl g
      where
        by : (f : Form) → form_of l ≡ f → order_fault places st f ≡ Some r → Is r
        by Idle e h = none_is Is h
        by (Keyed k) e h = need-is Is _ _ _ h (λ t. after-data k e) (λ t h₁. need-is Is _ _ _ h₁ (λ u. repeated k e) (λ u. none_is Is))
        by Data e h = first-is Is _ _ h (head-means (whole_row (whole e)) places st r) (λ h₁. need-is Is _ _ _ h₁ (λ t. too_many e) (λ t. none_is Is))
        by Neither e h = none_is Is h

    -- ---- the file's end, past a last line that the judge lets pass

    module _ (ends : p + length l ≡ length file) where
      end-spot : FileEnd file (at p (end_spot l))
      end-spot = record { place = omega (arith, ends); empty = omega arith }

      row-or-end : RowOrEnd file p l (at p (row_spot l))
      row-or-end = by (form_of l) refl
        where
          by : (f : Form) → form_of l ≡ f → RowOrEnd file p l (at p (row_spot l))
          by Idle e = rw e (file-end (λ d. no_data Idle refl (sym e ∙ d)) end-spot)
          by (Keyed k) e = rw e (file-end (λ d. no_data (Keyed k) refl (sym e ∙ d)) end-spot)
          by Data e = whole_row (whole e)
          by Neither e = rw e (file-end (λ d. no_data Neither refl (sym e ∙ d)) end-spot)

      end_is : (places : ℕ) (st : State) (r : Refusal) → end_fault places st ≡ Some r → Is r
      unfolding end_fault aim_of refusal_number aimed_in
      end_is places st r g = first-is Is _ _ g (head-means row-or-end places st r) (λ h. need-is Is _ _ _ h (λ t. to TooFewRows A.End refl end-spot) (λ t. none_is Is))

  -- ---- all the checks of the judge in their order

  judged : (places : ℕ) (st : State) (b : ℕ) (r : Refusal) → judge places st b l ≡ refuse r → Is r
  unfolding judge byte_fault
  judged places st b r g = unless-is Is (byte_fault l) _ g in_bytes (λ clean. past_bytes (need-none _ _ _ clean).0)
    where
      in_bytes : byte_fault l ≡ Some r → Is r
      in_bytes h = need-is Is _ _ _ h too_long (λ short h₁. need-is Is _ _ _ h₁ (forbidden short) (λ t. none_is Is))

      past_bytes : leb (length l) line_limit ≡ true → unless (order_fault places st (form_of l)) (take_in st (content_of b l)) ≡ refuse r → Is r
      past_bytes short h = unless-is Is (order_fault places st (form_of l)) _ h (order_is short places st r) (λ placed h₁. content-is short b r (taken-wrong st (content_of b l) r h₁))

-- ---- the line that a refusal names

-- lines that keep the rules have at most 250 bytes
kept-short : (p : ℕ) (ls : List (List ℕ)) (is : List Item) (k : ℕ) → Lines p ls is → length (get_or ls k []) ≤ line_limit
kept-short p [] is k h = omega arith
kept-short p (l ∷ ls) [] k h = absurd h
kept-short p (l ∷ ls) (i ∷ is) zero h = h.0.short
kept-short p (l ∷ ls) (i ∷ is) (suc k) h = kept-short (p + length l + 1) ls is k h.1

stopped-means : (file : List ℕ) (places : ℕ) (r : Refusal) (m : ℕ) → Stopped places 0 0 start (lines_of file) r m
    → Meant r file (line_start file m) (line_of file m) (at (line_start file m) (spot_in (refusal_number r) (line_of file m)))
stopped-means file places r m (at-line before l rest is e n k a u) =
    let this : line_of file m ≡ l = ap (λ (ls : List (List ℕ)). get_or ls (m - 1) []) e ∙ get_or_at before l rest [] (m - 1) (omega (arith, n)) in
    judged file (line_start file m) (line_of file m) places (final start is) (beginning 0 before) r (ap (judge places (final start is) (beginning 0 before)) this ∙ u)
stopped-means file places r m (at-end is n k a u) =
    let there = numbered file places r m (at-end is n k a u) in
    end_is file (line_start file m) (line_of file m) (le-leb _ _ (kept-short 0 (lines_of file) is (m - 1) k)) (last-ends file m there (omega (arith, n))) places (final start is) r u

-- what a refusal of a file points at is what it is about
pub to-the-point : (file : List ℕ) (places : ℕ) (r : Refusal) (m : ℕ) → read file places ≡ refused_on r m
    → Meant r file (line_start file m) (line_of file m) (pointed file (refusal_number r) m)
to-the-point file places r m h =
    let stop = refused-first file places r m h in
    subst (Meant r file (line_start file m) (line_of file m)) (sym (pointed-so file m (numbered file places r m stop) (refusal_number r))) (stopped-means file places r m stop)

-- the bytes of a part of its line are those of the file, at its spot
pub bytes-pointed : (file : List ℕ) (places : ℕ) (r : Refusal) (m : ℕ) → read file places ≡ refused_on r m
    → (s : Spot) (before bytes after : List ℕ) → Parts (line_start file m) (line_of file m) s before bytes after → part file s ≡ bytes
bytes-pointed file places r m h s before bytes after parts =
    rw (parts.place, parts.long)
    (ap (take (length bytes)) (sym (drop-drop (length before) p file) ∙ ap (drop (length before)) from-line ∙ drop_at before (bytes ++ (after ++ rest)) (length before) refl)
    ∙ take_at bytes (after ++ rest) (length bytes) refl)
  where
    p : ℕ
    p = line_start file m

    on : OnItsLine file (refusal_number r) m
    on = on-its-line file places r m h

    rest : List ℕ
    rest = drop (length (line_of file m)) (drop p file)

    from-line : drop p file ≡ before ++ (bytes ++ (after ++ rest))
    from-line =
        sym (take-append-drop (length (line_of file m)) (drop p file))
        ∙ ap (λ (x : List ℕ). x ++ rest) (ap (λ k. take k (drop p file)) (sym on.long) ∙ on.bytes ∙ parts.line)
        ∙ append_assoc before (bytes ++ after) rest
        ∙ ap (λ (x : List ℕ). before ++ x) (append_assoc bytes after rest)
