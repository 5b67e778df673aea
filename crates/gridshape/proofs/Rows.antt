-- FORMAT 3, 4, worked: the 2 by 2 grid, its heights 0, with slices just long enough, meets what is asked.
use mathlib.Core.Path.{◌≡◌, refl}
use mathlib.Core.List.{List}
use Prim.Native.Nat.{ℕ}
use Rattle.bits.specs.Bits.{field}
use Rattle.block.specs.Edition.{edition1, edition_of}
use Rattle.block.specs.declared.kind.Kind.TheVariants.{Grid}
use Rattle.block.specs.Header.{counts_of, header_of}
use Rattle.block.specs.Settings.{settings_of}
use Rattle.block.proofs.TableRows.{grid_header, grid_rest, grid, table_rows}
use Rattle.mesh.proofs.ShapeRows.{grid_soup}
use Rattle.lent.specs.Lent.{Asked}
use Rattle.lent.proofs.Just.{just, just_asked}

abbrev bench : List ℕ
bench = grid grid_header

is_grid : (header_of bench).kind ≡ Grid
unfolding grid grid_header grid_rest header_of counts_of edition_of edition1 field
is_grid = refl

pub met : Asked Grid bench (header_of bench) (settings_of bench) (just (record { points = 4; corners = 4; indices = 6 })) 72 72
met = just_asked table_rows.0 is_grid grid_soup.2 grid_soup.3 grid_soup.4
