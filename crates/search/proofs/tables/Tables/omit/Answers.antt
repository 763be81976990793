use Rattle.std.proofs.Common.{◌≡◌, ℕ, ◌<◌, List, length, Option as Held, Bor}
use Rattle.std.specs.Coded.{le_prop}
use Rattle.book.specs.declared.memory.Line.{Line}
use Rattle.search.specs.declared.tables.Tables.{Tables}
use Rattle.search.specs.Chains.{Lawful}
use Rattle.search.specs.Once.{Lawful-once}
use Rattle.search.proofs.tables.Tables.omit.Goals as goal

-- tables are the same however it is shown that they are lawful
same_tables : {G : Type 0} (n : ℕ) (first : Bor (List ℕ)) (lines : Bor (List (Line G))) (skip : Held ℕ) (a b : Lawful n first.now lines.now) (p q : length lines.now < 65535)
    → ◌≡◌ {A = Tables G} (record { n = n; first = first; lines = lines; skip = skip; lawful = a; few = p }) (record { n = n; first = first; lines = lines; skip = skip; lawful = b; few = q })
same_tables n first lines skip a b p q = λ i. record { n = n; first = first; lines = lines; skip = skip; lawful = Lawful-once n first.now lines.now a b i; few = le_prop p q i }

pub returns : goal.returns
returns g c = same_tables _ _ _ _ _ _ _ _
