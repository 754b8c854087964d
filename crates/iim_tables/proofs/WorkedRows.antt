-- Values of the definitions, computed.
use Rattle.std.proofs.Common.{◌≡◌, true, false, Some, None, [], ◌∷◌, map, refl, codes, pos}
use Rattle.jiff_core.specs.Calendar.{days_from_civil, day_count, days_of_years, days_of_months}
use Rattle.iim_dataset.specs.Format.Octets.{number}
use Rattle.iim_tables.specs.Format.Dates.{is_date, is_part_date, date_text, is_time, instant_in, time_text}
use Rattle.iim_tables.specs.Format.Rows.{row_of, table, unread_row}

-- A leap day in 2024, and no such day in 2023 and 1900.
leap_days : map is_date (codes "20240229" ∷ codes "20230229" ∷ codes "19000229" ∷ []) ≡ true ∷ false ∷ false ∷ []
leap_days = refl

-- A year alone, a day without its month, a month without its day, and a thirteenth month.
part_dates : map is_part_date (codes "20240000" ∷ codes "20240012" ∷ codes "20240300" ∷ codes "20241300" ∷ []) ≡ true ∷ true ∷ true ∷ false ∷ []
part_dates = refl

-- The last second of a day; and hour 24, second 60, and an offset with minute 60.
times : map is_time (codes "235959+0000" ∷ codes "240000+0000" ∷ codes "000060+0000" ∷ codes "120000+0060" ∷ []) ≡ true ∷ false ∷ false ∷ false ∷ []
times = refl

written_date : date_text 2024 3 1 ≡ codes "20240301"
written_date = refl

written_time : time_text 23 59 59 true 1 30 ≡ codes "235959-0130"
written_time = refl

-- The row of a dataset that is stored unread, and a dataset without a row.
rows : row_of 2 250 ∷ row_of 7 30 ∷ [] ≡ Some unread_row ∷ None ∷ []
unfolding row_of table
rows = refl

-- The instant 2024-03-01T11:00:00Z, and one after the last instant.
instants : instant_in (codes "20240301") (codes "120000+0100") ∷ instant_in (codes "99991231") (codes "235959-2359") ∷ []
    ≡ Some (pos 1_709_290_800_000_000_000) ∷ None ∷ []
unfolding days_from_civil day_count days_of_years days_of_months
instants = refl

four_octets : number (0 ∷ 0 ∷ 4 ∷ 0 ∷ []) ≡ 1024
four_octets = refl
