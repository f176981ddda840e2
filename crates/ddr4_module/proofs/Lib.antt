pub mod SurvivedStops
