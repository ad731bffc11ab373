-- Texts, the length of the longest start of each with which a text begins, and whether it is one. They were worked out from the definition
-- of the notation outside this crate, by a recogniser of another kind. Assumes nothing.
use Rattle.std.specs.Prelude.{◌≡◌, ℕ, Bool, true, false, List, [], ◌∷◌, length, codes, Some, None}
use Rattle.grammar.specs.Words.Words.{name, group, marked, joined}
use Rattle.grammar.specs.Words.Join.{next}
use Rattle.grammar.specs.Words.Mark.{optional}
use Rattle.models.specs.Written.{part}
use Rattle.grammar.specs.Notations.Notation.{dtd}
use Rattle.grammar.specs.Declarations.{Declaration}
use Rattle.grammar.specs.Declarations.Content.{none, children}
use Rattle.grammar.specs.Faults.{Cause, Gives, parts_of}
use Rattle.grammar.specs.Faults.Cause.{kind, again, beyond}
use Rattle.grammar.specs.Machine.{stop_of, is_accepted}

abbrev pub Row : List ℕ → ℕ → Bool → Type 0
Row bytes n is = (stop_of bytes ≡ n) × (is_accepted bytes ≡ is)

abbrev pub Tried0 : Type 0
Tried0 =
    Row ([]) 0 true
    × Row (32 ∷ 13 ∷ 10 ∷ 9 ∷ []) 4 true
    × Row (codes "<!ELEMENT a EMPTY>") 18 true
    × Row (codes "<!ELEMENT a ANY>") 16 true
    × Row (codes "<!ELEMENT a ANYx>") 15 false
    × Row (codes "<!ELEMENT a ANY") 15 false
    × Row (codes "<!ELEMENT a AN>") 14 false
    × Row (codes "<!ELEMENT a AN") 14 false
    × Row (codes "<!ELEMENT a EMPT>") 16 false
    × Row (codes "<!ELEMENT a EMPTYx>") 17 false

abbrev pub Tried1 : Type 0
Tried1 =
    Row (codes "<!ELEMENT a empty>") 12 false
    × Row (codes "<!ELEMENT a EMPTY >") 19 true
    × Row (codes "<!ELEMENT a EMPTY *>") 18 false
    × Row (codes "<!ELEMENT a b>") 12 false
    × Row (codes "<!ELEMENT a (#PCDATA|b)>") 23 false
    × Row (codes "<!ELEMENT a (#PCDATA|b) *>") 23 false
    × Row (codes "<!ELEMENT a (#PCDATA|b)+>") 23 false
    × Row (codes "<!ELEMENT a (#PCDATA)*>") 23 true
    × Row (codes "<!ELEMENT a (#PCDATA) *>") 22 false
    × Row (codes "<!ELEMENT a (#PCDATA)+>") 21 false

abbrev pub Tried2 : Type 0
Tried2 =
    Row (codes "<!ELEMENT a (#PCDATA)?>") 21 false
    × Row (codes "<!ELEMENT a (#PCDATA|b)*>") 25 true
    × Row (codes "<!ELEMENT a ( #PCDATA )>") 24 true
    × Row (codes "<!ELEMENT a ( #PCDATA | b )*>") 29 true
    × Row (codes "<!ELEMENT a ( #PCDATA )*>") 25 true
    × Row (codes "<!ELEMENT a (#PCDATA,b)>") 20 false
    × Row (codes "<!ELEMENT a (b|#PCDATA)>") 15 false
    × Row (codes "<!ELEMENT a ((#PCDATA))>") 14 false
    × Row (codes "<!ELEMENT a (#PCDATA|(b))*>") 21 false
    × Row (codes "<!ELEMENT a (#PCDATA|b?)*>") 22 false

abbrev pub Tried3 : Type 0
Tried3 =
    Row (codes "<!ELEMENT a (#PCDATAx)>") 20 false
    × Row (codes "<!ELEMENT a (#pcdata)>") 14 false
    × Row (codes "<!ELEMENT a (#PCDATA|b|b)*>") 27 true
    × Row (codes "<!ELEMENT a (#PCDATA|)*>") 21 false
    × Row (codes "<!ELEMENT a (#PCDATA||b)*>") 21 false
    × Row (codes "<!ELEMENT a (b,c|d)>") 16 false
    × Row (codes "<!ELEMENT a (b|c,d)>") 16 false
    × Row (codes "<!ELEMENT a (b ,c |d)>") 18 false
    × Row (codes "<!ELEMENT a (b c)>") 15 false
    × Row (codes "<!ELEMENT a ()>") 13 false

abbrev pub Tried4 : Type 0
Tried4 =
    Row (codes "<!ELEMENT a ( )>") 14 false
    × Row (codes "<!ELEMENT a (,b)>") 13 false
    × Row (codes "<!ELEMENT a (b,)>") 15 false
    × Row (codes "<!ELEMENT a (b|)>") 15 false
    × Row (codes "<!ELEMENT a (b)>") 16 true
    × Row (codes "<!ELEMENT a (b)?>") 17 true
    × Row (codes "<!ELEMENT a ((b))*>") 19 true
    × Row (codes "<!ELEMENT a (b)?*>") 16 false
    × Row (codes "<!ELEMENT a (b?*)>") 15 false
    × Row (codes "<!ELEMENT a ((b)?*)>") 17 false

abbrev pub Tried5 : Type 0
Tried5 =
    Row (codes "<!ELEMENT a (b ?)>") 15 false
    × Row (codes "<!ELEMENT a (b) ?>") 16 false
    × Row (codes "<!ELEMENT a (b)??>") 16 false
    × Row (codes "<!ELEMENT a b?>") 12 false
    × Row (codes "<!ELEMENT a (b?)>") 17 true
    × Row (codes "<!ELEMENT a (b?)* >") 19 true
    × Row (codes "<!ELEMENT a ((b,c)|d+)?>") 24 true
    × Row (codes "<!ELEMENT EMPTY EMPTY>") 22 true
    × Row (codes "<!ELEMENT ANY (ANY|EMPTY)>") 26 true
    × Row (codes "<!ELEMENTa EMPTY>") 9 false

abbrev pub Tried6 : Type 0
Tried6 =
    Row (60 ∷ 33 ∷ 69 ∷ 76 ∷ 69 ∷ 77 ∷ 69 ∷ 78 ∷ 84 ∷ 32 ∷ 32 ∷ 97 ∷ 9 ∷ 69 ∷ 77 ∷ 80 ∷ 84 ∷ 89 ∷ 13 ∷ 10 ∷ 62 ∷ []) 21 true
    × Row (codes "<!ELEMENT a>") 11 false
    × Row (codes "<!ELEMENT a >") 12 false
    × Row (codes "<!ELEMENT a(b)>") 11 false
    × Row (codes "<!ELEMENT a:b EMPTY>") 11 false
    × Row (codes "<!ELEMENT :a EMPTY>") 10 false
    × Row (codes "<!ELEMENT 1a EMPTY>") 10 false
    × Row (codes "<!ELEMENT -a EMPTY>") 10 false
    × Row (codes "<!ELEMENT _.-9 EMPTY>") 21 true
    × Row (codes "<!ELEMENT <!-- c --> a EMPTY>") 10 false

abbrev pub Tried7 : Type 0
Tried7 =
    Row (codes "<!ELEMENT a <!-- c -->EMPTY>") 12 false
    × Row (codes "<! ELEMENT a EMPTY>") 2 false
    × Row (codes "<!element a EMPTY>") 2 false
    × Row (codes "<ELEMENT") 1 false
    × Row (codes "x") 0 false
    × Row (codes "<!ELEMENT a EMPTY>x") 18 false
    × Row (codes "<!ELEMENT a EMPTY>>") 18 false
    × Row (codes "<!-- c --><!ELEMENT a EMPTY><!-- d -->") 38 true
    × Row (codes "<!-- a -- b -->") 9 false
    × Row (codes "<!-- --->") 7 false

abbrev pub Tried8 : Type 0
Tried8 =
    Row (codes "<!---->") 7 true
    × Row (codes "<!--->") 6 false
    × Row (codes "<!-->") 5 false
    × Row (codes "<!--->-->") 9 true
    × Row (codes "<!---") 5 false
    × Row (codes "<!-") 3 false
    × Row (codes "<!") 2 false
    × Row (codes "<") 1 false
    × Row (codes "<!-- x") 6 false
    × Row (codes "<!- -") 3 false

abbrev pub Tried9 : Type 0
Tried9 =
    Row (60 ∷ 33 ∷ 45 ∷ 45 ∷ 127 ∷ 45 ∷ 45 ∷ 62 ∷ []) 8 true
    × Row (60 ∷ 33 ∷ 45 ∷ 45 ∷ 1 ∷ 45 ∷ 45 ∷ 62 ∷ []) 4 false
    × Row (60 ∷ 33 ∷ 45 ∷ 45 ∷ 11 ∷ 45 ∷ 45 ∷ 62 ∷ []) 4 false
    × Row (codes "<!-- <!ELEMENT a ANY> -->") 25 true
    × Row (codes "%pe;") 0 false
    × Row (codes "<!ELEMENT a %pe;>") 12 false
    × Row (codes "<!ELEMENT a (%pe;)>") 13 false
    × Row (codes "<!ATTLIST a b CDATA #IMPLIED>") 2 false
    × Row (60 ∷ 33 ∷ 69 ∷ 78 ∷ 84 ∷ 73 ∷ 84 ∷ 89 ∷ 32 ∷ 37 ∷ 32 ∷ 120 ∷ 32 ∷ 34 ∷ 121 ∷ 34 ∷ 62 ∷ []) 3 false
    × Row (codes "<!NOTATION n>") 2 false

abbrev pub Tried10 : Type 0
Tried10 =
    Row (60 ∷ 63 ∷ 120 ∷ 109 ∷ 108 ∷ 32 ∷ 118 ∷ 101 ∷ 114 ∷ 115 ∷ 105 ∷ 111 ∷ 110 ∷ 61 ∷ 34 ∷ 49 ∷ 46 ∷ 48 ∷ 34 ∷ 63 ∷ 62 ∷ []) 1 false
    × Row (codes "<![INCLUDE[]]>") 2 false
    × Row (codes "<!DOCTYPE a []>") 2 false
    × Row (codes "<!ELEMENT") 9 false
    × Row (codes "<!ELEMENT ") 10 false
    × Row (codes "<!ELEMENT a") 11 false
    × Row (codes "<!ELEMENT a ") 12 false
    × Row (codes "<!ELEMENT a (") 13 false
    × Row (codes "<!ELEMENT a (b") 14 false
    × Row (codes "<!ELEMENT a (b)") 15 false

abbrev pub Tried11 : Type 0
Tried11 =
    Row (codes "<!ELEMENT a (b,") 15 false
    × Row (codes "<!ELEMENT a EMPTY") 17 false
    × Row (codes "<!ELEMENT a EMPTY> <!ELEMENT a EMPTY>") 37 true
    × Row (codes "<!ELEMENT a EMPTY><!ELEMENT a") 29 false
    × Row (codes "<!ELEMENT a EMPTY><!ELEMENT ab EMPTY>") 37 true
    × Row (codes "<!ELEMENT a EMPTY><!ELEMENT a%") 29 false
    × Row (60 ∷ 33 ∷ 69 ∷ 76 ∷ 69 ∷ 77 ∷ 69 ∷ 78 ∷ 84 ∷ 32 ∷ 97 ∷ 32 ∷ 40 ∷ 195 ∷ 169 ∷ 41 ∷ 62 ∷ []) 13 false
    × Row (60 ∷ 33 ∷ 45 ∷ 45 ∷ 32 ∷ 233 ∷ 32 ∷ 45 ∷ 45 ∷ 62 ∷ []) 5 false
    × Row (239 ∷ 187 ∷ 191 ∷ 60 ∷ 33 ∷ 69 ∷ 76 ∷ 69 ∷ 77 ∷ 69 ∷ 78 ∷ 84 ∷ 32 ∷ 97 ∷ 32 ∷ 69 ∷ 77 ∷ 80 ∷ 84 ∷ 89 ∷ 62 ∷ []) 0 false
    × Row (60 ∷ 33 ∷ 69 ∷ 76 ∷ 69 ∷ 77 ∷ 69 ∷ 78 ∷ 84 ∷ 32 ∷ 97 ∷ 233 ∷ 32 ∷ 69 ∷ 77 ∷ 80 ∷ 84 ∷ 89 ∷ 62 ∷ []) 11 false

abbrev pub Tried12 : Type 0
Tried12 =
    Row (60 ∷ 33 ∷ 69 ∷ 76 ∷ 69 ∷ 77 ∷ 69 ∷ 78 ∷ 84 ∷ 32 ∷ 97 ∷ 32 ∷ 69 ∷ 77 ∷ 80 ∷ 84 ∷ 89 ∷ 62 ∷ 0 ∷ []) 18 false
    × Row (codes "<!ELEMENT nnnnnnnnnnnnnnnnnnnnnnnnnnnnnnnn EMPTY>") 49 true
    × Row (codes "<!ELEMENT nnnnnnnnnnnnnnnnnnnnnnnnnnnnnnnnn EMPTY>") 50 true
    × Row (codes "<!ELEMENT a (nnnnnnnnnnnnnnnnnnnnnnnnnnnnnnnnn%") 46 false
    × Row (codes "<!ELEMENT a (nnnnnnnnnnnnnnnnnnnnnnnnnnnnnnnnn") 46 false
    × Row (codes "<!ELEMENT a ((((((((((((((((b))))))))))))))))>") 46 true
    × Row (codes "<!ELEMENT a (((((((((((((((((b)))))))))))))))))>") 48 true
    × Row (codes "<!ELEMENT a (((((((((((((((((") 29 false

abbrev pub Tried : Type 0
Tried = Tried0 × Tried1 × Tried2 × Tried3 × Tried4 × Tried5 × Tried6 × Tried7 × Tried8 × Tried9 × Tried10 × Tried11 × Tried12

-- and what some texts give, by the definitions
abbrev pub one : Declaration
one = record { name = codes "a"; content = children (group (joined (name (codes "b")) next (marked (name (codes "c")) optional))) }

abbrev pub void : Declaration
void = record { name = codes "a"; content = none }

abbrev pub Shown : Type 0
Shown =
    Gives dtd [] (codes "<!ELEMENT a ( b,c?)>") (one ∷ []) None
    × (parts_of [] one ≡ part 1 1 0 0 ∷ part 1 2 0 0 ∷ part 0 0 0 0 ∷ part 2 0 0 0 ∷ part 3 0 0 0 ∷ [])
    × Gives dtd [] (codes "<!ELEMENT a ANYx>") [] (Some (again, 12))
    × Gives dtd [] (codes "<!ELEMENT a EMPTY><!ELEMENT a") (void ∷ []) (Some (again, 28))
    × Gives dtd [] (codes "<!ELEMENT a EMPTY>x") (void ∷ []) (Some (kind, 18))
    × Gives dtd [] (codes "<!ELEMENT nnnnnnnnnnnnnnnnnnnnnnnnnnnnnnnnn EMPTY>") [] (Some (beyond, 10))

-- what is given, by the definitions: how many declarations, and the fault
abbrev pub Gave : List ℕ → ℕ → Type 0
Gave bytes k = (ds : List Declaration) × (length ds ≡ k) × Gives dtd [] bytes ds None

abbrev pub GaveFault : List ℕ → ℕ → Cause → ℕ → Type 0
GaveFault bytes k c q = (ds : List Declaration) × (length ds ≡ k) × Gives dtd [] bytes ds (Some (c, q))

abbrev pub Limit0 : Type 0
Limit0 = GaveFault (codes "<!ELEMENT a ANY>") 0 again 12

abbrev pub Limit1 : Type 0
Limit1 = GaveFault (codes "<!ELEMENT a ANYx>") 0 again 12

abbrev pub Limit2 : Type 0
Limit2 = GaveFault (codes "<!ELEMENT a ANY") 0 again 12

abbrev pub Limit3 : Type 0
Limit3 = Gave (codes "<!ELEMENT a (b)>") 1

abbrev pub Limit4 : Type 0
Limit4 = Gave (codes "<!ELEMENT a (b)?>") 1

abbrev pub Limit5 : Type 0
Limit5 = Gave (codes "<!ELEMENT a ((b))*>") 1

abbrev pub Limit6 : Type 0
Limit6 = GaveFault (codes "<!ELEMENT a EMPTY> <!ELEMENT a EMPTY>") 1 again 29

abbrev pub Limit7 : Type 0
Limit7 = GaveFault (codes "<!ELEMENT a EMPTY><!ELEMENT a") 1 again 28

abbrev pub Limit8 : Type 0
Limit8 = GaveFault (codes "<!ELEMENT a EMPTY><!ELEMENT a%") 1 again 28

abbrev pub Limit9 : Type 0
Limit9 = GaveFault (codes "<!ELEMENT nnnnnnnnnnnnnnnnnnnnnnnnnnnnnnnnn EMPTY>") 0 beyond 10

abbrev pub Limit10 : Type 0
Limit10 = GaveFault (codes "<!ELEMENT a (nnnnnnnnnnnnnnnnnnnnnnnnnnnnnnnnn%") 0 beyond 13

abbrev pub Limit11 : Type 0
Limit11 = GaveFault (codes "<!ELEMENT a (nnnnnnnnnnnnnnnnnnnnnnnnnnnnnnnnn") 0 beyond 13

abbrev pub Limit12 : Type 0
Limit12 = Gave (codes "<!ELEMENT a ((((((((((((((((b))))))))))))))))>") 1

abbrev pub Limit13 : Type 0
Limit13 = GaveFault (codes "<!ELEMENT a (((((((((((((((((b)))))))))))))))))>") 0 beyond 28

abbrev pub Limit14 : Type 0
Limit14 = GaveFault (codes "<!ELEMENT a (((((((((((((((((") 0 beyond 28

abbrev pub Limit15 : Type 0
Limit15 = Gave (codes "<!ELEMENT e0 EMPTY><!ELEMENT e1 EMPTY><!ELEMENT e2 EMPTY><!ELEMENT e3 EMPTY><!ELEMENT e4 EMPTY><!ELEMENT e5 EMPTY><!ELEMENT e6 EMPTY><!ELEMENT e7 EMPTY><!ELEMENT e8 EMPTY><!ELEMENT e9 EMPTY><!ELEMENT e10 EMPTY><!ELEMENT e11 EMPTY><!ELEMENT e12 EMPTY><!ELEMENT e13 EMPTY><!ELEMENT e14 EMPTY><!ELEMENT e15 EMPTY><!ELEMENT e16 EMPTY><!ELEMENT e17 EMPTY><!ELEMENT e18 EMPTY><!ELEMENT e19 EMPTY><!ELEMENT e20 EMPTY><!ELEMENT e21 EMPTY><!ELEMENT e22 EMPTY><!ELEMENT e23 EMPTY><!ELEMENT e24 EMPTY><!ELEMENT e25 EMPTY><!ELEMENT e26 EMPTY><!ELEMENT e27 EMPTY><!ELEMENT e28 EMPTY><!ELEMENT e29 EMPTY><!ELEMENT e30 EMPTY><!ELEMENT e31 EMPTY>") 32

abbrev pub Limit16 : Type 0
Limit16 = GaveFault (codes "<!ELEMENT e0 EMPTY><!ELEMENT e1 EMPTY><!ELEMENT e2 EMPTY><!ELEMENT e3 EMPTY><!ELEMENT e4 EMPTY><!ELEMENT e5 EMPTY><!ELEMENT e6 EMPTY><!ELEMENT e7 EMPTY><!ELEMENT e8 EMPTY><!ELEMENT e9 EMPTY><!ELEMENT e10 EMPTY><!ELEMENT e11 EMPTY><!ELEMENT e12 EMPTY><!ELEMENT e13 EMPTY><!ELEMENT e14 EMPTY><!ELEMENT e15 EMPTY><!ELEMENT e16 EMPTY><!ELEMENT e17 EMPTY><!ELEMENT e18 EMPTY><!ELEMENT e19 EMPTY><!ELEMENT e20 EMPTY><!ELEMENT e21 EMPTY><!ELEMENT e22 EMPTY><!ELEMENT e23 EMPTY><!ELEMENT e24 EMPTY><!ELEMENT e25 EMPTY><!ELEMENT e26 EMPTY><!ELEMENT e27 EMPTY><!ELEMENT e28 EMPTY><!ELEMENT e29 EMPTY><!ELEMENT e30 EMPTY><!ELEMENT e31 EMPTY><!ELEMENT e32 EMPTY>") 32 beyond 630

abbrev pub Limit17 : Type 0
Limit17 = GaveFault (codes "<!ELEMENT e0 EMPTY><!ELEMENT e1 EMPTY><!ELEMENT e2 EMPTY><!ELEMENT e3 EMPTY><!ELEMENT e4 EMPTY><!ELEMENT e5 EMPTY><!ELEMENT e6 EMPTY><!ELEMENT e7 EMPTY><!ELEMENT e8 EMPTY><!ELEMENT e9 EMPTY><!ELEMENT e10 EMPTY><!ELEMENT e11 EMPTY><!ELEMENT e12 EMPTY><!ELEMENT e13 EMPTY><!ELEMENT e14 EMPTY><!ELEMENT e15 EMPTY><!ELEMENT e16 EMPTY><!ELEMENT e17 EMPTY><!ELEMENT e18 EMPTY><!ELEMENT e19 EMPTY><!ELEMENT e20 EMPTY><!ELEMENT e21 EMPTY><!ELEMENT e22 EMPTY><!ELEMENT e23 EMPTY><!ELEMENT e24 EMPTY><!ELEMENT e25 EMPTY><!ELEMENT e26 EMPTY><!ELEMENT e27 EMPTY><!ELEMENT e28 EMPTY><!ELEMENT e29 EMPTY><!ELEMENT e30 EMPTY><!ELEMENT e31 EMPTY><!ELEMENTx") 32 beyond 630

abbrev pub Limit18 : Type 0
Limit18 = Gave (codes "<!ELEMENT a (n0,n1,n2,n3,n4,n5,n6,n7,n8,n9,n10,n11,n12,n13,n14,n15,n16,n17,n18,n19,n20,n21,n22,n23,n24,n25,n26,n27,n28,n29,n30,n31,n32,n33,n34,n35,n36,n37,n38,n39,n40,n41,n42,n43,n44,n45,n46,n47,n48,n49,n50,n51,n52,n53,n54,n55,n56,n57,n58,n59,n60,n61,n62)>") 1

abbrev pub Limit19 : Type 0
Limit19 = GaveFault (codes "<!ELEMENT a (n0,n1,n2,n3,n4,n5,n6,n7,n8,n9,n10,n11,n12,n13,n14,n15,n16,n17,n18,n19,n20,n21,n22,n23,n24,n25,n26,n27,n28,n29,n30,n31,n32,n33,n34,n35,n36,n37,n38,n39,n40,n41,n42,n43,n44,n45,n46,n47,n48,n49,n50,n51,n52,n53,n54,n55,n56,n57,n58,n59,n60,n61,n62,n63)>") 0 beyond 255

abbrev pub Limit20 : Type 0
Limit20 = Gave (codes "<!ELEMENT a (a,a,a,a,a,a,a,a,a,a,a,a,a,a,a,a,a,a,a,a,a,a,a,a,a,a,a,a,a,a,a,a,a,a,a,a,a,a,a,a,a,a,a,a,a,a,a,a,a,a,a,a,a,a,a,a,a,a,a,a,a,a,a,a,a,a,a,a,a,a,a,a,a,a,a,a,a,a,a,a,a,a,a,a,a,a,a,a,a,a,a,a,a,a,a,a,a,a,a,a,a,a,a,a,a,a,a,a,a,a,a,a,a,a,a,a,a,a,a,a,a,a,a,a,a,a,a,a)>") 1

abbrev pub Limit21 : Type 0
Limit21 = GaveFault (codes "<!ELEMENT a (a,a,a,a,a,a,a,a,a,a,a,a,a,a,a,a,a,a,a,a,a,a,a,a,a,a,a,a,a,a,a,a,a,a,a,a,a,a,a,a,a,a,a,a,a,a,a,a,a,a,a,a,a,a,a,a,a,a,a,a,a,a,a,a,a,a,a,a,a,a,a,a,a,a,a,a,a,a,a,a,a,a,a,a,a,a,a,a,a,a,a,a,a,a,a,a,a,a,a,a,a,a,a,a,a,a,a,a,a,a,a,a,a,a,a,a,a,a,a,a,a,a,a,a,a,a,a,a,a)>") 0 beyond 271

abbrev pub Limit22 : Type 0
Limit22 = Gave (codes "<!ELEMENT a (a,a,a,a,a,a,a,a,a,a,a,a,a,a,a,a,a,a,a,a,a,a,a,a,a,a,a,a,a,a,a,a,a,a,a,a,a,a,a,a,a,a,a,a,a,a,a,a,a,a,a,a,a,a,a,a,a,a,a,a,a,a,a,a,a,a,a,a,a,a,a,a,a,a,a,a,a,a,a,a,a,a,a,a,a,a,a,a,a,a,a,a,a,a,a,a,a,a,a,a,a,a,a,a,a,a,a,a,a,a,a,a,a,a,a,a,a,a,a,a,a,a,a,a,a,a,a,a+)>") 1

abbrev pub Limit23 : Type 0
Limit23 = Gave (codes "<!ELEMENT a (a,a,a,a,a,a,a,a,a,a,a,a,a,a,a,a,a,a,a,a,a,a,a,a,a,a,a,a,a,a,a,a,a,a,a,a,a,a,a,a,a,a,a,a,a,a,a,a,a,a,a,a,a,a,a,a,a,a,a,a,a,a,a,a,a,a,a,a,a,a,a,a,a,a,a,a,a,a,a,a,a,a,a,a,a,a,a,a,a,a,a,a,a,a,a,a,a,a,a,a,a,a,a,a,a,a,a,a,a,a,a,a,a,a,a,a,a,a,a,a,a,a,a,a,a,a,a,a)+>") 1

abbrev pub Limit24 : Type 0
Limit24 = Gave (codes "<!ELEMENT a (a,a,a,a,a,a,a,a,a,a,a,a,a,a,a,a,a,a,a,a,a,a,a,a,a,a,a,a,a,a,a,a,a,a,a,a,a,a,a,a,a,a,a,a,a,a,a,a,a,a,a,a,a,a,a,a,a,a,a,a,a,a,a,a,a,a,a,a,a,a,a,a,a,a,a,a,a,a,a,a,a,a,a,a,a,a,a,a,a,a,a,a,a,a,a,a,a,a,a,a,a,a,a,a,a,a,a,a,a,a,a,a,a,a,a,a,a,a,a,a,a,a,a,a,a,a,a)+>") 1

abbrev pub Limits : Type 0
Limits = Limit0 × Limit1 × Limit2 × Limit3 × Limit4 × Limit5 × Limit6 × Limit7 × Limit8 × Limit9 × Limit10 × Limit11 × Limit12 × Limit13 × Limit14 × Limit15 × Limit16 × Limit17 × Limit18 × Limit19 × Limit20 × Limit21 × Limit22 × Limit23 × Limit24
