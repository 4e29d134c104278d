pub mod FreeRuns
