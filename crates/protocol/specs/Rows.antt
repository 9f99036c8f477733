-- Lists that are cut in rows of one size.
use Rattle.std.specs.Prelude.{List, [], ◌++◌, ℕ, zero, suc, ◌+◌, ◌*◌, take, drop}

-- row r of the list is written over
unfoldable pub put_row : ℕ → ℕ → List ℕ → List ℕ → List ℕ
put_row size r row rows = take (r * size) rows ++ row ++ drop (r * size + size) rows

-- m rows, row r being f r
unfoldable pub joined : ℕ → (ℕ → List ℕ) → List ℕ
joined zero f = []
joined (suc m) f = f 0 ++ joined m (λ r. f (suc r))
