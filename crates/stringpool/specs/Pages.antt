-- An empty pool, and a pool with another code page.
use Rattle.std.specs.Prelude.{ℕ, false}
use Rattle.common.specs.Answers.{Answer, gives, on_given}
use Rattle.order.specs.Order.{page_fits_lem}
use Rattle.stringpool.specs.Pool.{Rooms, on_sound}
use Rattle.stringpool.specs.declared.pool.StringPool.{StringPool}

-- "code page above 2,147,483,647"
abbrev pub page_answer : StringPool → ℕ → Answer StringPool
page_answer p page =
    on_given (page_fits_lem page) (λ _. gives (record { num_strings = p.num_strings; long_string_refs = p.long_string_refs; codepage = page }))

-- "Making an empty (short) pool or setting the code page: 21."
abbrev pub new_answer : ℕ → Answer StringPool
new_answer page = page_answer (record { num_strings = 0; long_string_refs = false; codepage = 0 }) page

abbrev pub set_page_answer : StringPool → Rooms → ℕ → Answer StringPool
set_page_answer p w page = on_sound p w (page_answer p page)
