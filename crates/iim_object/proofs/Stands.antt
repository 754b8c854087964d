-- The sizes that a reader returns after complete records.
use Rattle.iim_object.proofs.Words.{◌≡◌, subst, ◌<◌, List, [], ◌∷◌, length, true, Some, None, refl, sym, ap, ◌∙◌, arith, length-map, eq-eqb, number, Dataset, SizesAgree, sizes_at, StatesModeAndLargest, AreObjectRecords, numbers_of, lengths_of, place_after_datasets, ObjectReaderStandsAt, State}
use Rattle.iim_object.specs.{Laws.ReadersReturnSizes, Format.Objects.HaveSizes}
use Rattle.iim_object.proofs.{Subfiles.agree_of, Subfiles.confirmed_law, Steps.sizes_are, Steps.sizes_in, Cuts.place_is, Cuts.place_with, Cuts.sorted}
use Rattle.iim_object.proofs.Members.{one_confirmation, some_subfile, ten_of}

sizes_at_end : (s : State) (r7 r8 r9 : List Dataset) (e : Dataset) → r9 ≡ e ∷ [] → e.set ≡ 10 → 0 < length r8 → ObjectReaderStandsAt (Some s) (place_with r7 r8
    (e ∷ []))
    → HaveSizes r7 r8 r9 (sizes_in s)
sizes_at_end s r7 r8 r9 e one ten long st =
    let (known, subfile, mode, largest, told) = sizes_are s (place_with r7 r8 (e ∷ [])) (number e.octets) st refl in
    let duties : StatesModeAndLargest known subfile (numbers_of r7) = record { stated = st.stated; mode = mode; largest = largest } in
    let some : 0 < length (lengths_of r8) = omega (arith, long, length-map r8 (λ (d : Dataset). length d.octets)) in
    let (fit, whole, same) = (confirmed_law known subfile (numbers_of r7) (lengths_of r8) (number e.octets) duties some).0 st.alive in
    rw told (record {
      mode = mode;
      largest = largest;
      announced = refl;
      maximum = refl;
      subfiles = sym (length-map r8 (λ (d : Dataset). length d.octets));
      total = refl;
      confirmed = number e.octets;
      is_confirmed = rw (one, eq-eqb e.set 10 ten) refl;
      agree = subst (SizesAgree (sizes_at known subfile (numbers_of r7) (lengths_of r8)) (lengths_of r8)) (sym same)
          (agree_of known subfile (numbers_of r7) (lengths_of r8) fit whole);
    })

pub have_sizes : (s : State) (ds : List Dataset) (r : AreObjectRecords ds) → ObjectReaderStandsAt (Some s) (place_after_datasets ds) → HaveSizes r.r7 r.r8 r.r9
    (sizes_in s)
have_sizes s ds r st =
    let (e, nine, one) = one_confirmation r.r9 r.confirmation in
    let place = ap place_after_datasets r.parts ∙ (place_is r.before r.r7 r.r8 r.r9 (sorted r) ∙ ap (place_with r.r7 r.r8) one) in
    sizes_at_end s r.r7 r.r8 r.r9 e one (ten_of e nine) (some_subfile r.r8 r.object) (rw place at st)

pub tell_sizes : ReadersReturnSizes
tell_sizes None = (
  record {
    known = true;
    subfile = 0;
    announced = None;
    maximum = None;
    subfiles = 0;
    total = 0;
  },
  λ ds r st. absurd (let clash = st.is_state in cc),
)
tell_sizes (Some s) = (sizes_in s, have_sizes s)
