-- How `split` gives the fields of a word. Assumes nothing.
use Rattle.std.proofs.Common.{◌≡◌, ℕ, suc, ◌<◌, true, false, List, [], ◌∷◌, ◌++◌, length, get_or, take, drop, Some, None, Option, is_some, sym, refl, ap, subst, ◌∙◌, append_assoc, append-nil, arith, Bor, length-drop}
use lib.ListN.{take-append-drop}
use Rattle.std.specs.declared.str.Split.{Split}
use Rattle.std.specs.Str.Iter.{text_or_empty, split_text, split_has_more, split_pattern, split_rest, split_steps}
use Rattle.std.specs.Str.Pattern.{FindsChar, IsSplitAtFirstMatch}
use Rattle.std.proofs.lemmas.Str.Pattern.{drop_at_char, NoCharPasses-char}
use Rattle.std.proofs.lemmas.Bool.{cond-true, cond-false, eq-eqb, ne_eqb}
use Rattle.script.specs.Reads.{onto, fields}

-- no byte is the cut
abbrev Plain : ℕ → List ℕ → Type 0
Plain c bs = (i : ℕ) → i < length bs → get_or bs i 0 ≡ c → ⊥

later : (c b : ℕ) (bs : List ℕ) → Plain c (b ∷ bs) → Plain c bs
later c b bs p i h = p (suc i) (omega arith)

fields_plain : (c : ℕ) (bs : List ℕ) → Plain c bs → fields c bs ≡ bs ∷ []
fields_plain c [] p = refl
fields_plain c (b ∷ bs) p = cond-false _ _ _ (ne_eqb b c (p 0 (omega arith))) ∙ ap (onto b) (fields_plain c bs (later c b bs p))

fields_cut : (c : ℕ) (xs ys : List ℕ) → Plain c xs → fields c (xs ++ (c ∷ ys)) ≡ xs ∷ fields c ys
fields_cut c [] ys p = cond-true _ _ _ (eq-eqb c c refl)
fields_cut c (b ∷ xs) ys p = cond-false _ _ _ (ne_eqb b c (p 0 (omega arith))) ∙ ap (onto b) (fields_cut c xs ys (later c b xs p))

-- the fields that come of a text, if it is there
abbrev to_come : ℕ → Option (Bor (List ℕ)) → List (List ℕ)
to_come c None = []
to_come c (Some w) = fields c w.now

-- the fields that a split has still to give
abbrev pub fields_left : ℕ → Split ℕ → List (List ℕ)
fields_left c s = to_come c (split_rest s)

none_came : (c : ℕ) (r : Option (Bor (List ℕ))) (bs : List ℕ) → is_some r ≡ true → text_or_empty r ≡ bs → fields c bs ≡ to_come c r
none_came c None bs more is = cc
none_came c (Some w) bs more is = ap (fields c) (sym is)

one_comes : (c : ℕ) → c < 128 → (r t : Option (Bor (List ℕ))) (x : List ℕ) → true ≡ is_some r → IsSplitAtFirstMatch (FindsChar c) (text_or_empty r) x (is_some t) (text_or_empty t) → to_come c r ≡ x ∷ to_come c t
one_comes c ascii None t x more h = cc
one_comes c ascii (Some w) None x more (short, (None, lacks, (is, dead))) = fields_plain c w.now (λ k. NoCharPasses-char c _ k lacks ascii) ∙ ap (λ f. f ∷ []) (sym is)
one_comes c ascii (Some w) (Some y) x more (short, (None, lacks, (is, dead))) = cc
one_comes c ascii (Some w) t x more (short, (Some (i, j), found, cuts)) = at t (cuts past)
  where
    here : drop i w.now ≡ c ∷ drop j w.now
    here = drop_at_char c w.now i j found.1 ascii

    past : 0 < j
    past = omega (arith, ap length here, length-drop i w.now, length-drop j w.now)

    at : (u : Option (Bor (List ℕ))) → (x ≡ take i w.now) × (is_some u ≡ true) × (text_or_empty u ≡ drop j w.now) → fields c w.now ≡ x ∷ to_come c u
    at None e = cc
    at (Some y) e =
        ap (fields c) (sym (take-append-drop i w.now) ∙ ap (λ l. take i w.now ++ l) here)
        ∙ fields_cut c (take i w.now) (drop j w.now) (λ k. NoCharPasses-char c _ k found.0 ascii)
        ∙ (λ k. sym e.0 k ∷ fields c (sym e.2 k))

none_comes : (c : ℕ) (r : Option (Bor (List ℕ))) → false ≡ is_some r → to_come c r ≡ []
none_comes c None none = refl
none_comes c (Some w) none = cc

-- what `next` says of a field, and after the last
module _ (c : ℕ) (s t : Split ℕ) where
  pub next_left : c < 128 → split_pattern s ≡ c → (x : Bor (List ℕ)) → split_steps FindsChar (λ c d. d ≡ c) s (Some x) t → (split_pattern t ≡ c) × (fields_left c s ≡ x.now ∷ fields_left c t)
  next_left ascii is x steps = (
    steps.1.0 ∙ is,
    one_comes c ascii (split_rest s) (split_rest t) x.now steps.0 (subst (λ p. IsSplitAtFirstMatch (FindsChar p) (split_text s) x.now (split_has_more t) (split_text t)) is steps.1.1),
  )

  pub none_left : split_steps FindsChar (λ c d. d ≡ c) s None t → fields_left c s ≡ []
  none_left steps = none_comes c (split_rest s) steps.0

-- the fields seen have come of the text bs, and the split s has the others
pub record Seen (c : ℕ) (bs : List ℕ) (seen : List (List ℕ)) (s : Split ℕ) : Type 0 where
  pub pattern : split_pattern s ≡ c
  pub is : fields c bs ≡ seen ++ fields_left c s

pub none_seen : {c : ℕ} {bs : List ℕ} {s : Split ℕ} → split_pattern s ≡ c → split_has_more s ≡ true → split_text s ≡ bs → Seen c bs [] s
none_seen {s = s} p more text = record { pattern = p; is = none_came _ (split_rest s) _ more text }

module _ {c : ℕ} {bs : List ℕ} {seen : List (List ℕ)} {s : Split ℕ} (so : Seen c bs seen s) (t : Split ℕ) where
  pub next_seen : c < 128 → (x : Bor (List ℕ)) → split_steps FindsChar (λ c d. d ≡ c) s (Some x) t → Seen c bs (seen ++ (x.now ∷ [])) t
  next_seen ascii x steps =
      let next = next_left c s t ascii so.pattern x steps in
      record { pattern = next.0; is = so.is ∙ ap (λ fs. seen ++ fs) next.1 ∙ sym (append_assoc seen (x.now ∷ []) (fields_left c t)) }

  pub all_seen : split_steps FindsChar (λ c d. d ≡ c) s None t → fields c bs ≡ seen
  all_seen steps = so.is ∙ ap (λ fs. seen ++ fs) (none_left c s t steps) ∙ append-nil seen
