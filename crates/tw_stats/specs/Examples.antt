-- Pieces of reports, which the check computes: of a generator that sends 5 each second tick and its tally, until tick 5; and of a machine with observations.
use Rattle.std.specs.Prelude.{◌≡◌, ◌++◌, ◌∷◌, [], Some, None, codes, flat_map, map, pos}
use Rattle.tw_figures.specs.declared.told.Told.{Told}
use Rattle.tw_stats.specs.Grids.{grid_text}
use Rattle.tw_stats.specs.Json.{row_json}
use Rattle.tw_stats.specs.Rows.{Row}
use Rattle.tw_stats.specs.Strings.{quoted}
use Rattle.tw_stats.specs.Texts.{counts_head, counts_line, observation_lines, observations_text}

-- a figure that counts to 2: 0 for two ticks, 1 for two, and 2 for one
abbrev pub counted : Told
counted = record { least = pos 0; greatest = pos 2; last = pos 2; mean = pos 800; busy = pos 600; sums = record { sum = pos 4; busy = 3 } }

abbrev pub generator : Row
generator = record {
  name = codes "g";
  model = codes "gen";
  counts = record { outputs = 2; sent = 2; received = 0; int = 2; ext = 0; con = 0 };
  figures = (codes "count", counted) ∷ [];
  observations = [];
}

abbrev pub tally : Row
tally = record {
  name = codes "t";
  model = codes "tally";
  counts = record { outputs = 0; sent = 0; received = 2; int = 0; ext = 2; con = 0 };
  figures = [];
  observations = [];
}

-- a machine that observed 2, 4, 4, 4, 5, 5, 7, 9, and nothing by another name
abbrev pub desk : Row
desk = record {
  name = codes "desk";
  model = codes "server";
  counts = record { outputs = 8; sent = 8; received = 8; int = 8; ext = 8; con = 0 };
  figures = [];
  observations =
      (codes "stay", record { count = pos 8; sum = pos 40; squares = pos 232; mean = Some (pos 5000); deviation = Some 2000 })
      ∷ (codes "late", record { count = pos 0; sum = pos 0; squares = pos 0; mean = None; deviation = None })
      ∷ [];
}

abbrev pub CountsTable : Type 0
CountsTable =
    grid_text 2 (counts_head ∷ map counts_line (generator ∷ tally ∷ []))
    ≡ codes "component  model  outputs  sent  received  int  ext  con\n"
    ++ codes "g          gen          2     2         0    2    0    0\n"
    ++ codes "t          tally        0     0         2    0    2    0\n"

abbrev pub GeneratorJson : Type 0
GeneratorJson =
    row_json 5 generator
    ≡ codes "{\"name\":\"g\",\"model\":\"gen\",\"outputs\":2,\"sent\":2,\"received\":0,\"int\":2,\"ext\":0,\"con\":0,\"figures\":["
    ++ codes "{\"name\":\"count\",\"least\":0,\"greatest\":2,\"last\":2,\"mean\":0.800,\"busy\":0.600,\"mean_of\":[4,5],\"busy_of\":[3,5]}],\"observations\":[]}"

abbrev pub DeskJson : Type 0
DeskJson =
    row_json 100 desk
    ≡ codes "{\"name\":\"desk\",\"model\":\"server\",\"outputs\":8,\"sent\":8,\"received\":8,\"int\":8,\"ext\":8,\"con\":0,\"figures\":[],\"observations\":["
    ++ codes "{\"name\":\"stay\",\"count\":8,\"sum\":40,\"mean\":5.000,\"sd\":2.000},{\"name\":\"late\",\"count\":0,\"sum\":0,\"mean\":null,\"sd\":null}]}"

abbrev pub ObservationsTable : Type 0
ObservationsTable =
    observations_text (flat_map observation_lines (generator ∷ desk ∷ []))
    ≡ codes "\ncomponent  observation  count  sum   mean     sd\n"
    ++ codes "desk       stay             8   40  5.000  2.000\n"
    ++ codes "desk       late             0    0      -      -\n"

-- there is no third table where no component has an observation
abbrev pub NoObservations : Type 0
NoObservations = observations_text (flat_map observation_lines (generator ∷ tally ∷ [])) ≡ []

-- a quotation mark, a backslash, a tab
abbrev pub Escapes : Type 0
Escapes = quoted (codes "a\"b\\c\td") ≡ codes "\"a\\\"b\\\\c\\u0009d\""
