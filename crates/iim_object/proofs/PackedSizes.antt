-- What is written of an object by a plan has the sizes of the plan.
use Rattle.iim_object.proofs.Words.{◌≡◌, ℕ, ◌≤◌, List, [], ◌∷◌, ◌++◌, length, map, sum, Some, None, refl, ap, arith, append_assoc, length-append, AllByRecursion, length-map, sum_cons, written_number, number_back, number, greatest_size, SizesAgree, number_at, mode_number, announced_of, maximum_of, limit_of, Size, Known, Unknown, numbers_of, lengths_of, joined_parts, AreFull, SplitsIntoSubfiles, is_known, plan_datasets, subfile_dataset, subfile_datasets}
use Rattle.iim_object.specs.{Format.Objects.fits, Format.Packing.HasKnownLength, Format.Packing.packed_sizes, Laws.PackedObjectsHaveSizes}
use Rattle.iim_object.proofs.PlanParts.{plan_parts}

-- ---- Lengths.

lengths_are : (parts : List (List ℕ)) → lengths_of (subfile_datasets parts) ≡ map length parts
lengths_are [] = refl
lengths_are (p ∷ ps) = rw (lengths_are ps) refl

sum_of : (full : List (List ℕ)) (last : List ℕ) → sum (map length (full ++ last ∷ [])) ≡ length (joined_parts full ++ last)
sum_of [] last = omega arith
sum_of (f ∷ fs) last = omega (
  arith,
  sum_cons (length f) (map length (fs ++ last ∷ [])),
  sum_of fs last,
  ap length (append_assoc f (joined_parts fs) last),
  length-append f (joined_parts fs ++ last),
)

no_longer : (size : ℕ) (full : List (List ℕ)) (last : List ℕ) → AreFull size full → length last ≤ size
    → AllByRecursion (λ n. n ≤ size) (map length (full ++ last ∷ []))
no_longer size [] last h fits = (fits, tt)
no_longer size (f ∷ fs) last h fits = (omega (arith, h.0), no_longer size fs last h.1 fits)

pub total_is : (size : ℕ) (object : List ℕ) (parts : List (List ℕ)) → SplitsIntoSubfiles size object parts → sum (lengths_of (subfile_datasets parts))
    ≡ length object
total_is size object parts c = rw (lengths_are parts, c.parts_are, c.joined) (sum_of c.full c.last)

pub each_fits : (size : ℕ) (object : List ℕ) (parts : List (List ℕ)) → SplitsIntoSubfiles size object parts
    → AllByRecursion (λ n. n ≤ size) (lengths_of (subfile_datasets parts))
each_fits size object parts c = rw (lengths_are parts, c.parts_are) (no_longer size c.full c.last c.are_full c.fits)

-- ---- Sizes.

agree : (subfile : ℕ) (size : Size) (object : List ℕ) (parts : List (List ℕ)) (lengths : List ℕ) → limit_of size ≤ greatest_size
    → length object ≤ limit_of size → HasKnownLength size object
    → AllByRecursion (λ n. n ≤ subfile) lengths → SizesAgree (packed_sizes subfile size object parts) lengths (length object)
agree subfile size object parts lengths limit le exact each = grind arith

-- A number that is at most the greatest size is read back as it was written.
read_back : (n : ℕ) → n ≤ greatest_size → number (written_number n) ≡ n
read_back n le = number_back n (omega (arith, le))

numbers_told : (subfile : ℕ) (size : Size) → limit_of size ≤ greatest_size
    → (number_at 10 (numbers_of (plan_datasets subfile size)) ≡ Some (mode_number (is_known size)))
    × (number_at 90 (numbers_of (plan_datasets subfile size)) ≡ announced_of size) × (number_at 95 (numbers_of (plan_datasets subfile size)) ≡ maximum_of size)
numbers_told subfile (Known n) limit = (refl, ap Some (read_back n limit), refl)
numbers_told subfile (Unknown (Some m)) limit = (refl, refl, ap Some (read_back m limit))
numbers_told subfile (Unknown None) limit = (refl, refl, refl)

pub have_sizes : PackedObjectsHaveSizes
have_sizes subfile size object parts plan octets cut suits =
    let p = plan_parts subfile size plan in
    let below : length object ≤ limit_of size = omega (arith, suits.fits) in
    let told = numbers_told subfile size p.limit in
    record {
      mode = told.0;
      largest = ap Some (read_back subfile p.most);
      announced = told.1;
      maximum = told.2;
      subfiles = length-map parts subfile_dataset;
      total = total_is subfile object parts cut;
      confirmed = length object;
      is_confirmed = ap Some (read_back (length object) (omega (arith, p.limit, below)));
      agree = agree subfile size object parts (lengths_of (subfile_datasets parts)) p.limit below suits.exact (each_fits subfile object parts cut);
    }
