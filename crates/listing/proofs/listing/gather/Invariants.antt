use Rattle.std.proofs.Common.{◌≡◌, ◌-◌, length}
use Rattle.listing.specs.Keeping.{ReadSoFar}
use Rattle.listing.proofs.listing.gather.Given as goal

-- the sheet has 256 parts, and the elements are what was given so far
abbrev pub invariant-loop-declared : goal.invariant-loop-declared
invariant-loop-declared g l =
    record {
      sheet : length l.sheet ≡ 256;
      so_far : ReadSoFar l.fn.reader l.reader l.elements.items;
    }

abbrev pub decreases-loop-declared : goal.decreases-loop-declared
decreases-loop-declared g l = 32 - l.reader.given
