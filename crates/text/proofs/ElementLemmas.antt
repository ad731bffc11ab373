-- The names, the declared ones among them and the declarations begun, where one sign is read more. Assumes nothing.
use Rattle.std.proofs.Common.{◌≡◌, ℕ, zero, ◌+◌, ◌<◌, ◌≤◌, Bool, true, false, ◌||◌, List, [], ◌∷◌, ◌++◌, length, sym, refl, ap, ◌∙◌, subst, inl, inr, ⊎_elim, Ok, Err, arith}
use Rattle.std.specs.Prelude.{bit_or}
use Rattle.std.specs.Str.{bytes_eq}
use Rattle.std.proofs.lemmas.Bool.{cases_Bool, false≢true, or_right}
use Rattle.std.proofs.lemmas.List.{length_push}
use Rattle.std.proofs.lemmas.Option.{get_or_from_slice_get}
use Rattle.std.proofs.lemmas.Slice.Eq.{bytes_eq-Decides}
use Rattle.parts.specs.Sets.{In, only}
use Rattle.parts.proofs.SymbolSets.{in_left, in_right, in_either, in_only, only_in}
use Rattle.names.specs.Numbering.{symbol_in, is_known, known_after}
use Rattle.names.specs.Kept.{AreKept, Met}
use Rattle.names.specs.declared.names.NameFault.{NameFault}
use Rattle.names.specs.declared.names.NameFault.TheVariants.{TooLong, TooMany}
use Rattle.names.proofs.Numbering.{symbol-behind, symbol_below, at_symbol, same_symbol, met_new, known_once_met, met_in_turn, added_behind, no_fewer, stays_known, symbol_stays}
use Rattle.grammar.specs.Notations.{Notation}
use Rattle.grammar.specs.Notations.Notation.{dtd}
use Rattle.grammar.specs.Words.Sign.{names}
use Rattle.grammar.specs.Declarations.{Sign}
use Rattle.grammar.specs.Declarations.Sign.{element, declared, inner}
use Rattle.grammar.specs.Faults.{Faultless, NameBeyond, names_among, begun, is_declared}
use Rattle.text.specs.Causes.{name_cause}
use Rattle.text.specs.Progress.{is_plain_sign, DeclaredAre, ElementsAre, NamesGrow, AtFaultBy}
use Rattle.text.specs.declared.elements.Elements.{Elements}

-- what signs say, one behind others

pub names-append : (ss ts : List Sign) → names_among (ss ++ ts) ≡ names_among ss ++ names_among ts
names-append [] ts = refl
names-append (declared n ∷ ss) ts = ap (λ ns. n ∷ ns) (names-append ss ts)
names-append (inner (names n) ∷ ss) ts = ap (λ ns. n ∷ ns) (names-append ss ts)
names-append (s ∷ ss) ts = names-append ss ts

pub begun-append : (ss ts : List Sign) → begun dtd (ss ++ ts) ≡ begun dtd ss + begun dtd ts
begun-append [] ts = omega arith
begun-append (element ∷ ss) ts = let more = begun-append ss ts in omega arith
begun-append (s ∷ ss) ts = begun-append ss ts

pub declared-append : (n : List ℕ) (ss ts : List Sign) → is_declared n (ss ++ ts) ≡ (is_declared n ss || is_declared n ts)
declared-append n [] ts = refl
declared-append n (declared m ∷ ss) ts = ⊎_elim (λ e. rw e refl) (λ e. rw e (declared-append n ss ts)) (cases_Bool (bytes_eq m n))
declared-append n (s ∷ ss) ts = declared-append n ss ts

-- the names known after a sign more
pub known_more : (ks : List (List ℕ)) (ss ts : List Sign) → known_after ks (names_among (ss ++ ts)) ≡ known_after (known_after ks (names_among ss)) (names_among ts)
known_more ks ss ts = ap (known_after ks) (names-append ss ts) ∙ met_in_turn ks (names_among ss) (names_among ts)

-- a declared name is known
pub declared_known : (ks : List (List ℕ)) (ss : List Sign) (n : List ℕ) → is_declared n ss ≡ true → is_known (known_after ks (names_among ss)) n ≡ true
declared_known ks [] n h = absurd (false≢true h)
declared_known ks (declared m ∷ ss) n h =
    ⊎_elim (λ e.
    let same : m ≡ n = (bytes_eq-Decides m n).0 e in
    stays_known (known_after ks (m ∷ [])) (names_among ss) n (subst (λ x. is_known (known_after ks (m ∷ [])) x ≡ true) same (known_once_met ks m)))
    (λ e. declared_known (known_after ks (m ∷ [])) ss n (rw e at h)) (cases_Bool (bytes_eq m n))
declared_known ks (inner (names m) ∷ ss) n h = declared_known (known_after ks (m ∷ [])) ss n h
declared_known ks (s ∷ ss) n h = declared_known ks ss n h

-- names that are added leave the set as it is
pub declared_stays : (known ns : List (List ℕ)) (ss : List Sign) (set : ℕ) → ((n : List ℕ) → is_declared n ss ≡ true → is_known known n ≡ true)
    → DeclaredAre known ss set → DeclaredAre (known_after known ns) ss set
declared_stays known ns ss set all (each, below) = (
  (λ n there.
      elim (cases_Bool (is_known known n)) [
        | inl old ↦ rw (symbol_stays known ns n old) (each n old)
        | inr new ↦
            let (more, e) = added_behind known ns in
            let symbol = ap (λ xs. symbol_in xs n) e ∙ symbol-behind known more n new in (
              (λ h. absurd (false≢true (sym new ∙ all n h))),
              (λ h. let low = below (symbol_in (known_after known ns) n) h in absurd (omega arith)),
            )
      ]),
  (λ s h. let fewer = no_fewer known ns in let low = below s h in omega arith),
)

-- signs that declare the same
declared_same : (known : List (List ℕ)) (ss ts : List Sign) (set : ℕ) → ((n : List ℕ) → is_declared n ts ≡ is_declared n ss)
    → DeclaredAre known ss set → DeclaredAre known ts set
declared_same known ss ts set same (each, below) = ((λ n there. rw (same n) (each n there)), below)

or_nothing : (b : Bool) → (b || false) ≡ b
or_nothing true = refl
or_nothing false = refl

-- the set with the symbol of a name more, where that is declared
declared_more : (known : List (List ℕ)) (ss : List Sign) (set : ℕ) (m : List ℕ) → is_known known m ≡ true → length known ≤ 64
    → DeclaredAre known ss set → DeclaredAre known (ss ++ (declared m ∷ [])) (bit_or set (only (symbol_in known m)))
declared_more known ss set m there few (each, below) = (
  (λ n known_n. (
    (λ h. elim (cases_Bool (is_declared n ss)) [
      | inl before ↦ in_left set one (symbol_in known n) ((each n known_n).0 before)
      | inr not_before ↦
          let last : is_declared n (declared m ∷ []) ≡ true = rw (declared-append n ss (declared m ∷ []), not_before) at h in
          elim (cases_Bool (bytes_eq m n)) [
            | inl e ↦
                in_right set one (symbol_in known n)
                (subst (λ x. In one (symbol_in known x)) ((bytes_eq-Decides m n).0 e) (only_in (symbol_in known m) low))
            | inr e ↦ absurd (false≢true (rw e at last))
          ]
    ]),
    (λ h. rw (declared-append n ss (declared m ∷ [])) (elim (in_either set one (symbol_in known n) h) [
      | inl before ↦ rw ((each n known_n).1 before) refl
      | inr last ↦
          let same : m ≡ n = same_symbol known m n there known_n (in_only (symbol_in known m) (symbol_in known n) last) in
          let e : bytes_eq m n ≡ true = (bytes_eq-Decides m n).1 same in
          or_right (is_declared n ss) (is_declared n (declared m ∷ [])) (rw e refl)
    ])),
  )),
  (λ s h. elim (in_either set one s h) [
    | inl before ↦ below s before
    | inr last ↦ let e = in_only (symbol_in known m) s last in let less = symbol_below known m there in omega arith
  ]),
)
  where
    one : ℕ
    one = only (symbol_in known m)

    low : symbol_in known m ≤ 63
    low = let less = symbol_below known m there in omega arith

-- names only grow
pub grow_none : (e : Elements) → NamesGrow e e
grow_none e = ([], refl)

pub grow_on : (a b c : Elements) → NamesGrow a b → NamesGrow b c → NamesGrow a c
grow_on a b c (ms, first) (ns, second) =
    (ms ++ ns, second ∙ ap (λ known. known_after known ns) first ∙ sym (met_in_turn a.names ms ns))

-- a plain sign adds nothing
plain_names : (s : Sign) → is_plain_sign s ≡ true → names_among (s ∷ []) ≡ []
plain_names (declared n) h = absurd (false≢true h)
plain_names (inner (names n)) h = absurd (false≢true h)
plain_names s h = refl

plain_begun : (s : Sign) → is_plain_sign s ≡ true → begun dtd (s ∷ []) ≡ zero
plain_begun element h = absurd (false≢true h)
plain_begun s h = refl

plain_declared : (n : List ℕ) (s : Sign) → is_plain_sign s ≡ true → is_declared n (s ∷ []) ≡ false
plain_declared n (declared m) h = absurd (false≢true h)
plain_declared n s h = refl

pub plain_on : (ν : Notation) (ks : List (List ℕ)) (ss : List Sign) (s : Sign) (e : Elements) → is_plain_sign s ≡ true
    → ElementsAre ν ks ss e → ElementsAre ν ks (ss ++ (s ∷ [])) e
plain_on dtd ks ss s e plain are = record {
  names = are.names ∙ sym (known_more ks ss (s ∷ []) ∙ ap (known_after (known_after ks (names_among ss))) (plain_names s plain));
  begun = let more = begun-append ss (s ∷ []) in let none = plain_begun s plain in let before = are.begun in omega arith;
  declared =
      declared_same e.names ss (ss ++ (s ∷ [])) e.declared.bits
      (λ n. declared-append n ss (s ∷ []) ∙ ap (λ b. is_declared n ss || b) (plain_declared n s plain) ∙ or_nothing (is_declared n ss)) are.declared;
}

-- a declaration begins
pub begins : (ks : List (List ℕ)) (ss : List Sign) (e : Elements) → ElementsAre dtd ks ss e → e.begun < 32
    → Faultless dtd ks ss element × ElementsAre dtd ks (ss ++ (element ∷ [])) (record { names = e.names; declared = e.declared; begun = e.begun + 1 })
begins ks ss e are room =
    let before = are.begun in (
      ((λ h. h), (λ over. omega arith)),
      record {
        names = are.names ∙ sym (known_more ks ss (element ∷ []));
        begun = let more = begun-append ss (element ∷ []) in omega arith;
        declared =
            declared_same e.names ss (ss ++ (element ∷ [])) e.declared.bits
            (λ n. declared-append n ss (element ∷ []) ∙ or_nothing (is_declared n ss)) are.declared;
      },
    )

-- a name that is met
short_known : (known : List (List ℕ)) (n : List ℕ) → AreKept known → is_known known n ≡ true → length n ≤ 32
short_known known n kept there =
    let at = get_or_from_slice_get known (symbol_in known n) n n (at_symbol known n there) in
    let short = kept.short (symbol_in known n) n (symbol_below known n there) in
    rw at at short

module _ (ks : List (List ℕ)) (ss : List Sign) (e : Elements) (are : ElementsAre dtd ks ss e) (n : List ℕ) (new : List (List ℕ)) where
  declared_there : (m : List ℕ) → is_declared m ss ≡ true → is_known e.names m ≡ true
  declared_there m h = rw are.names (declared_known ks ss m h)

  within : (s : ℕ) → Met e.names n (Ok s) new → NameBeyond ks ss n → ⊥
  within s met (inl long) = let short = met.0 in omega arith
  within s met (inr (unknown, many)) =
      let new_one : is_known e.names n ≡ false = rw are.names unknown in
      let room : 64 ≤ length e.names = rw are.names many in
      let long = ap length (met.2 ∙ met_new e.names n new_one) ∙ length_push e.names n in
      let few = met.1 in
      omega arith

  still_declared : (s : ℕ) → Met e.names n (Ok s) new → DeclaredAre new ss e.declared.bits
  still_declared s met =
      subst (λ known. DeclaredAre known ss e.declared.bits) (sym met.2) (declared_stays e.names (n ∷ []) ss e.declared.bits declared_there are.declared)

  names_now : (s : ℕ) → Met e.names n (Ok s) new → new ≡ known_after (known_after ks (names_among ss)) (n ∷ [])
  names_now s met = met.2 ∙ ap (λ known. known_after known (n ∷ [])) are.names

  -- in content
  pub meets : (s : ℕ) → Met e.names n (Ok s) new
      → Faultless dtd ks ss (inner (names n)) × ElementsAre dtd ks (ss ++ (inner (names n) ∷ [])) (record { names = new; declared = e.declared; begun = e.begun })
  meets s met = (
    ((λ h. h), within s met),
    record {
      names = names_now s met ∙ sym (known_more ks ss (inner (names n) ∷ []));
      begun = let before = are.begun in let more = begun-append ss (inner (names n) ∷ []) in omega arith;
      declared =
          declared_same new ss (ss ++ (inner (names n) ∷ [])) e.declared.bits
          (λ m. declared-append m ss (inner (names n) ∷ []) ∙ or_nothing (is_declared m ss)) (still_declared s met);
    },
  )

  pub not_met : (fault : NameFault) → Met e.names n (Err fault) new → AtFaultBy dtd ks ss (inner (names n)) (name_cause fault)
  not_met TooLong met = ((n, inr refl, met.0), ((λ h. h), inl met.0))
  not_met TooMany met =
      let unknown = rw are.names at met.1 in
      let full : length e.names ≡ 64 = met.2 in
      let many : 64 ≤ length (known_after ks (names_among ss)) = rw (← are.names) (omega arith) in
      ((n, inr refl, met.0, unknown, many), ((λ h. h), inr (unknown, many)))

  -- where it is declared
  pub declared_before : (s : ℕ) → Met e.names n (Ok s) new → In e.declared.bits s → is_declared n ss ≡ true
  declared_before s met has =
      let set = e.declared.bits in
      ((still_declared s met).0 n met.3.known).1 (subst (In set) (sym met.3.symbol) has)

  pub declares : (s set : ℕ) → Met e.names n (Ok s) new → (In e.declared.bits s → ⊥) → set ≡ bit_or e.declared.bits (only s)
      → Faultless dtd ks ss (declared n) × DeclaredAre new (ss ++ (declared n ∷ [])) set
  declares s set met has_not is = (
    ((λ h. has_not (subst (In e.declared.bits) met.3.symbol (((still_declared s met).0 n met.3.known).0 h))), within s met),
    (let more = declared_more new ss e.declared.bits n met.3.known met.1 (still_declared s met) in
        subst (DeclaredAre new (ss ++ (declared n ∷ []))) (ap (λ x. bit_or e.declared.bits (only x)) met.3.symbol ∙ sym is) more),
  )

  pub names_declared : (s : ℕ) → Met e.names n (Ok s) new → new ≡ known_after ks (names_among (ss ++ (declared n ∷ [])))
  names_declared s met = names_now s met ∙ sym (known_more ks ss (declared n ∷ []))

  pub begun_still : e.begun ≡ begun dtd (ss ++ (declared n ∷ []))
  begun_still = let before = are.begun in let more = begun-append ss (declared n ∷ []) in omega arith

  pub not_declared : (fault : NameFault) → AreKept new → Met e.names n (Err fault) new → AtFaultBy dtd ks ss (declared n) (name_cause fault)
  not_declared TooLong kept met = (
    (n, inl refl, met.0),
    (
      (λ h.
          let short = short_known e.names n (subst AreKept met.1 kept) (declared_there n h) in
          let long = met.0 in
          omega arith),
      inl met.0,
    ),
  )
  not_declared TooMany kept met =
      let unknown = rw are.names at met.1 in
      let full : length e.names ≡ 64 = met.2 in
      let many : 64 ≤ length (known_after ks (names_among ss)) = rw (← are.names) (omega arith) in
      ((n, inl refl, met.0, unknown, many), ((λ h. false≢true (sym met.1 ∙ declared_there n h)), inr (unknown, many)))
